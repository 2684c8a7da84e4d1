use Rattle.std.proofs.Common.{◌≡◌, ◌++◌, flat_map}
use Rattle.std.specs.Prelude.{string_bytes}
use Rattle.faxconv_lib.specs.Json.{json_char}
use Rattle.faxconv_lib.proofs.json.put_json_chars.Given as goal

abbrev pub invariant-loop-c : goal.invariant-loop-c
invariant-loop-c l = string_bytes l.text ≡ string_bytes l.fn.text ++ flat_map json_char l.yielded
