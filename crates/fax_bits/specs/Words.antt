-- The words of runs and modes, one after the other (T.4, 4.1.1 and 4.2.1.2).
use Rattle.std.specs.Prelude.{◌≡◌, ◌⊎◌, ℕ, Bool, false, List, [], ◌∷◌, ◌++◌, replicate}
use Rattle.std.specs.List.{list_all}
use Rattle.fax_bits.specs.declared.codes.Color.{Color}
use Rattle.fax_bits.specs.declared.codes.Mode.{Mode}
use Rattle.fax_bits.specs.Bits.{Bits}
use Rattle.fax_bits.specs.CodeLists.{Code, mode_codes}
use Rattle.fax_bits.specs.CodeReading.{Has}
use Rattle.fax_bits.specs.Runs.{codes_of}

-- a word of a run or of a mode (T.4, 4.1.1 and 4.2.1.2)
abbrev pub IsWord : Bits → Type 0
IsWord word = ((color : Color) × (n : ℕ) × Has (codes_of color) n word) ⊎ ((mode : Mode) × Has mode_codes mode word)

-- a list of such words (T.4, 4.1.1 and 4.2.1.2)
abbrev pub AreWords : List Bits → Type 0
AreWords [] = Unit {0}
AreWords (word ∷ words) = IsWord word × AreWords words

-- auxiliary: consecutive words
abbrev pub joined : List Bits → Bits
joined [] = []
joined (word ∷ words) = word ++ joined words

-- n consecutive zeros occur somewhere (T.4, 4.1.2)
abbrev pub HoldsZeros : ℕ → Bits → Type 0
HoldsZeros n bits = (before after : Bits) × (bits ≡ before ++ replicate n false ++ after)

-- each word of a list passes a test
abbrev pub each_word : {V : Type 0} → (Bits → Bool) → List (Code V) → Bool
each_word test list = list_all (λ c. test c.word) list
