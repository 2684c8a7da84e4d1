use Rattle.faxrows_lib.proofs.Names.{◌∙◌, refl, sym, IsTextByRow}
use Rattle.faxrows_lib.proofs.RowsUnderWay.{as_meant, good_args, new_feed, nothing_as_read}
use Rattle.faxrows_lib.proofs.by_row.run_by_row.Goals as goal

pub returns-in_default-new : goal.returns-in_default-new
returns-in_default-new g c = record {
  runs = good_args IsTextByRow _ _ _ c.in-Some.arguments _ (sym c.arguments_of.ensures ∙ c.in-Some.is)
      (nothing_as_read IsTextByRow c.in-Some.arguments.settings c.in-Some.arguments.order _ _ refl refl);
}

pub write_by_row-requires : goal.write_by_row-requires
write_by_row-requires g c = record {
  new = new_feed c.in-Ok.ensures.none_fed c.in-Ok.ensures.none_read.0 c.in-Ok.ensures.reading;
}

pub returns : goal.returns
returns g c = record {
  runs = good_args IsTextByRow _ _ _ c.in-Some.arguments c.write_by_row.result
      (sym c.arguments_of.ensures ∙ c.in-Some.is)
      (as_meant IsTextByRow c.write_by_row.result c.in-Ok.ensures.settings c.in-Ok.ensures.order c.write_by_row.ensures.writes);
}
