use Rattle.std.proofs.Common.{◌≡◌, ◌<◌, ◌^◌, ◌-◌, drop, length}
use Rattle.tiff_read.specs.Numbers.{low_first}
use Rattle.tiff_read.proofs.form.number_by_last.Given as goal

abbrev pub invariant-digits : goal.invariant-digits
invariant-digits l = record {
  number : l.number ≡ low_first (drop l.index l.digits);
  fits : l.number < 256 ^ (length l.digits - l.index);
}
