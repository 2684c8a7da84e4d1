use Rattle.std.proofs.Common.{refl}
use Rattle.c_rows.proofs.feeding.Feeding.new.Goals as goal

pub returns : goal.returns
returns c =
    let made = c.in_ok-rows.ensures in
    record {
      opened = record {
        reading = made.reading;
        settings_are = made.settings;
        order_is = made.order;
        none_fed = made.none_fed;
        none_read = (made.none_read.0, made.none_read.1);
        none_kept = refl;
        layout_is = refl;
      };
    }
