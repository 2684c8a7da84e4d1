use Rattle.std.proofs.Common.{◌≡◌, ◌<◌, ◌^◌, drop}
use Rattle.tiff_read.specs.Numbers.{high_first}
use Rattle.tiff_read.proofs.form.number_by_first.Given as goal

abbrev pub invariant-digits : goal.invariant-digits
invariant-digits l = record {
  number : high_first l.number (drop l.index l.digits) ≡ high_first 0 l.digits;
  fits : l.number < 256 ^ l.index;
}
