use Rattle.std.proofs.Common.{inl, refl}
use Rattle.test_decoder.proofs.tests.look_ups.white_entries.Goals as goal

pub build_lookup-requires : goal.build_lookup-requires
build_lookup-requires c c' = record { one_color = inl (refl, refl) }
