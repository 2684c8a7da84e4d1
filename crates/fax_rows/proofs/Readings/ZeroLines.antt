-- The line that zeros begin is broken, and so is the same however many they are.
use Rattle.fax_rows.proofs.Names.{◌≡◌, ◌≢◌, ◌∙◌, ◌+◌, ◌-◌, ◌%◌, ◌≤◌, ◌<◌, ap, sym, subst, arith, length, true, false, ℕ, Bool}
use Rattle.fax_rows.proofs.Names.{Bits, BitsAt, Context, DecodeSettings, DecodeError, EncodingMode, Ok, Err, Result, here}
use Rattle.fax_rows.proofs.Names.{refl, Group3_1D, Group3_2D, Group4, InvalidCode}
use Rattle.fax_rows.proofs.Names.{IsFault, IfErr, false≢true, found_here, front_of}
use Rattle.fax_rows.proofs.Names.{Line, line_1d, line_2d, line_here, Row, row_of_line, max, most_stored, room_for}
use Rattle.std.proofs.Common.{◌++◌, ◌∷◌, [], append-nil, leb, replicate, zero, suc, drop}
use Rattle.std.proofs.lemmas.List.{length-replicate}
use Rattle.fax_reading.specs.Answers.{HasBlack}
use Rattle.fax_reading.specs.Continuations.{StaysAsRead, is_short}
use Rattle.fax_reading.specs.PlainReading.{aligned_after_row, line_by}
use Rattle.fax_reading.specs.Lines.{draw_1d, draw_2d, start}
use Rattle.fax_bits.specs.Repetition.{Turn, repeated}
use Rattle.fax_reading.specs.Rows.{repaired}
use Rattle.std.proofs.lemmas.Bool.{leb-true}
use Rattle.fax_rows.proofs.Readings.GapsEnded.{left_settles, zeros_split}
use Rattle.fax_rows.proofs.Readings.GapsStood.{before_split}
use Rattle.fax_rows.specs.GapsCounted.{behind_tag}
use Rattle.fax_rows.specs.RowsTried.{CanCome, ReadsRow, TriesRow}
use Rattle.fax_rows.specs.ZerosLast.{CountsZeros, zeros_at}
use Rattle.fax_bits.proofs.ErrorKinds.{by_kind}
use Rattle.fax_rows.proofs.Names.{Held}

-- ---- It is broken at its first word

not_full : (columns : ℕ) → 0 < columns → leb columns 0 ≡ false
not_full columns wide = by_test (leb columns 0) refl
  where
    by_test : (full : Bool) → leb columns 0 ≡ full → leb columns 0 ≡ false
    by_test false e = e
    by_test true e = absurd (omega (arith, wide, leb-true columns 0 e))

turn_1d : (strict : Bool) (columns : ℕ) (rest : Bits) → leb columns 0 ≡ false
    → (draw_1d strict columns (start (replicate 11 false ++ rest))).turn ≡ Turn.done (Line.broken [] InvalidCode)
turn_1d strict columns rest e = rw (e) refl

turn_2d : (strict : Bool) (columns : ℕ) (reference : Row) (rest : Bits) → leb columns 0 ≡ false
    → (draw_2d strict columns reference (start (replicate 11 false ++ rest))).turn ≡ Turn.done (Line.broken [] InvalidCode)
turn_2d strict columns reference rest e = rw (e) refl

broken_1d : (strict : Bool) (columns : ℕ) (rest : Bits) → 0 < columns
    → line_1d strict columns (replicate 11 false ++ rest) ≡ Line.broken [] InvalidCode
broken_1d strict columns rest wide = rw (turn_1d strict columns rest (not_full columns wide), repeated) refl

broken_2d : (strict : Bool) (columns : ℕ) (reference : Row) (rest : Bits) → 0 < columns
    → line_2d strict columns reference (replicate 11 false ++ rest) ≡ Line.broken [] InvalidCode
broken_2d strict columns reference rest wide =
    rw (turn_2d strict columns reference rest (not_full columns wide), repeated) refl

zeros_from : (k n : ℕ) → k ≤ n → replicate n false ++ [] ≡ replicate k false ++ (replicate (n - k) false ++ [])
zeros_from k n few =
    let all : n ≡ k + (n - k) = omega (arith, few) in
    ap (λ (m : ℕ). replicate m false ++ []) all ∙ zeros_split k (n - k)

pub zeros_line : (settings : DecodeSettings) (reference : Row) (tag : Bool) (n : ℕ) → 0 < settings.columns
    → (tag ≡ true → settings.encoding ≡ Group3_2D) → 11 ≤ n → (tag ≡ false → 12 ≤ n)
    → line_here settings reference (behind_tag tag (replicate n false ++ [])) ≡ Line.broken [] InvalidCode
zeros_line settings reference true n wide tagged enough more =
    ap (λ (e : EncodingMode). line_by e settings.strict settings.columns reference (true ∷ (replicate n false ++ [])))
    (tagged refl) ∙ ap (line_1d settings.strict settings.columns) (zeros_from 11 n enough)
    ∙ broken_1d settings.strict settings.columns (replicate (n - 11) false ++ []) wide
zeros_line settings reference false n wide tagged enough more =
    ap (λ (b : Bits). line_here settings reference b) (zeros_from 12 n (more refl)) ∙ by_encoding settings.encoding
  where
    rest : Bits
    rest = replicate (n - 12) false ++ []

    by_encoding : (e : EncodingMode) → line_by e settings.strict settings.columns reference (replicate 12 false ++ rest)
        ≡ Line.broken [] InvalidCode
    by_encoding Group3_1D = broken_1d settings.strict settings.columns (false ∷ rest) wide
    by_encoding Group3_2D = broken_2d settings.strict settings.columns reference rest wide
    by_encoding Group4 = broken_2d settings.strict settings.columns reference (false ∷ rest) wide

-- where it is repaired, the same bits are next
unaligned : (settings : DecodeSettings) (start : Bits) → aligned_after_row settings true start ≡ start
unaligned settings start = by_test settings.rows_are_byte_aligned refl
  where
    by_test : (aligned : Bool) → settings.rows_are_byte_aligned ≡ aligned → aligned_after_row settings true start ≡ start
    by_test true a = rw (a) refl
    by_test false a = rw (a) refl

abbrev rest_of : Result (Row × Bits) DecodeError → Bits
rest_of (Ok x) = x.1
rest_of (Err e) = []

after_repair : (settings : DecodeSettings) (has_eols : Bool) (here rest : Bits) (taken : Row)
    → row_of_line settings has_eols here (Line.broken [] InvalidCode) ≡ Ok (taken, rest) → rest ≡ here
after_repair settings has_eols here rest taken is = by_test settings.strict refl has_eols is
  where
    by_test : (strict : Bool) → settings.strict ≡ strict → (has_eols : Bool)
        → row_of_line settings has_eols here (Line.broken [] InvalidCode) ≡ Ok (taken, rest) → rest ≡ here
    by_test true s has_eols is = let never = rw (s) at is in absurd cc
    by_test false s false is = let never = rw (s) at is in absurd cc
    by_test false s true is =
        let same : ◌≡◌ {A = Result (Row × Bits) DecodeError}
        (Ok (repaired settings.columns [], aligned_after_row settings true here))
        (Ok (taken, rest)) = rw (s) at is in
        sym (ap (λ (r : Result (Row × Bits) DecodeError). rest_of r) same) ∙ unaligned settings here

-- ---- Three bytes of zeros

drop_zeros : (k m : ℕ) → drop k (replicate (k + m) false) ≡ replicate m false
drop_zeros zero m = ap (λ (n : ℕ). replicate n false) (omega arith)
drop_zeros (suc k) m =
    let one : suc k + m ≡ suc (k + m) = omega arith in
    ap (λ (n : ℕ). drop (suc k) (replicate n false)) one ∙ drop_zeros k m

pub last_zeros : (n : ℕ) → n < 20 → drop (24 - n) (replicate 24 false) ≡ (zeros_at false n).bits
last_zeros n few =
    let all : 24 ≡ (24 - n) + n = omega (arith, few) in
    ap (λ (m : ℕ). drop (24 - n) (replicate m false)) all ∙ drop_zeros (24 - n) n ∙ sym (append-nil (replicate n false))

-- ---- However many more zeros there are

zeros_longer : (tag : Bool) (m j : ℕ) → (zeros_at tag (m + j)).bits ≡ (zeros_at tag m).bits ++ replicate j false
zeros_longer tag m j =
    ap (behind_tag tag) (zeros_split m j)
    ∙ ap (λ (b : Bits). behind_tag tag (replicate m false ++ b)) (append-nil (replicate j false))
    ∙ before_split tag m [] (replicate j false)

module _ (old new : Context) (answer : Result Bool DecodeError) (before after : BitsAt)
    (tries : TriesRow false old new answer before after) (put_back : answer ≢ Ok true → after ≡ before) (tag : Bool) (m j : ℕ)
    (is : here before ≡ (zeros_at tag m).bits) (wide : 0 < old.held.settings.columns)
    (tagged : tag ≡ true → old.held.settings.encoding ≡ Group3_2D) (enough : 11 ≤ m) (plain : tag ≡ false → 12 ≤ m)
    (bytes : j % 8 ≡ 0) where
  abbrev all : Bits
  all = (zeros_at tag (m + j)).bits

  all_is : here before ++ replicate j false ≡ all
  all_is = ap (λ (b : Bits). b ++ replicate j false) is ∙ sym (zeros_longer tag m j)

  can : CanCome false (replicate j false)
  can = record { bytes = ap (λ (n : ℕ). n % 8) (length-replicate j false) ∙ bytes; none = λ e. absurd cc }

  line_now : line_here old.held.settings old.held.reference (here before) ≡ Line.broken [] InvalidCode
  line_now = ap (λ (b : Bits). line_here old.held.settings old.held.reference b) is
      ∙ zeros_line old.held.settings old.held.reference tag m wide tagged enough plain

  line_all : line_here old.held.settings old.held.reference all ≡ Line.broken [] InvalidCode
  line_all = zeros_line old.held.settings old.held.reference tag (m + j) wide tagged (omega (arith, enough))
      (λ e. omega (arith, plain e))

  same_line : line_here old.held.settings old.held.reference (here before) ≡ line_here old.held.settings old.held.reference all
  same_line = line_now ∙ sym line_all

  same_found : found_here old.held.settings old.held.reference all
      ≡ found_here old.held.settings old.held.reference (here before)
  same_found =
      ap (found_here old.held.settings old.held.reference) (sym all_is)
      ∙ (subst (StaysAsRead old.held.settings old.held.reference) (sym is) (left_settles old.held.settings old.held.reference
      (record { eols = 0; tag = tag; zeros = m }) enough)).found (replicate j false)

  -- a row was read
  read_all : answer ≡ Ok true → ReadsRow old new (Ok tt) all all
  read_all e =
      let row = subst (λ (b : Bits). ReadsRow old new (Ok tt) b (here after ++ replicate j false)) all_is
      (tries.read e (replicate j false) can) in
      let taken = row.row.taken in
      let rest : here after ++ replicate j false ≡ all =
      after_repair old.held.settings old.held.has_eols all (here after ++ replicate j false) taken.taken
      (ap (row_of_line old.held.settings old.held.has_eols all) (sym line_all) ∙ taken.is) in
      subst (ReadsRow old new (Ok tt) all) rest row

  failed_all : (e : DecodeError) → answer ≡ Err e → IsFault e → ReadsRow old new (Err e) all all
  failed_all e e_is fault =
      let fails = (subst (λ (r : Result Bool DecodeError). IfErr r (λ e. IsFault e → (more : Bits) → CanCome false more
      → ReadsRow old new (Err e) (here before ++ more) (here after ++ more))) e_is tries.failed) fault (replicate j false) can in
      let stays : here after ≡ here before = ap here (put_back (λ other. absurd (let never = sym e_is ∙ other in cc))) in
      subst (ReadsRow old new (Err e) all) (ap (λ (b : Bits). b ++ replicate j false) stays ∙ all_is)
      (subst (λ (b : Bits). ReadsRow old new (Err e) b (here after ++ replicate j false)) all_is fails)

  with_none : (result : Result (Unit {0}) DecodeError) (more : Bits) → CanCome true more → ReadsRow old new result all all
      → ReadsRow old new result (all ++ more) (all ++ more)
  with_none result more come row =
      let same : all ≡ all ++ more = sym (append-nil all) ∙ ap (λ (b : Bits). all ++ b) (sym (come.none refl)) in
      subst (λ (b : Bits). ReadsRow old new result b b) same row

  pub tries_zeros : TriesRow true old new answer (zeros_at tag (m + j)) (zeros_at tag (m + j))
  tries_zeros = record {
    read = λ e more come. with_none (Ok tt) more come (read_all e);
    failed = by_answer answer refl;
    left = tries.left;
    short = λ e. absurd (false≢true (sym (ap is_short line_now) ∙ (tries.short e).1));
    memory = λ e. subst (λ (l : Line). HasBlack (front_of l)) same_line (tries.memory e);
    not_refused = tries.not_refused;
    counts = tries.counts;
    at_most = omega (arith, tries.at_most, ap length same_found);
    space = subst (λ (l : Line). new.space ≤ max old.space (room_for (most_stored old.held.reference l))) same_line tries.space;
  }
    where
      by_answer : (r : Result Bool DecodeError) → answer ≡ r → IfErr r (λ e. IsFault e → (more : Bits) → CanCome true more
          → ReadsRow old new (Err e) (all ++ more) (all ++ more))
      by_answer (Ok read) e_is = tt
      by_answer (Err e) e_is = λ fault more come. with_none (Err e) more come (failed_all e e_is fault)

-- ---- Whatever the zeros are

-- a row is counted at most
pub zero_line_counts : (old new : Context) (answer : Result Bool DecodeError) (before after : BitsAt)
    → TriesRow false old new answer before after → CountsZeros old new answer
zero_line_counts old new answer before after tries = record {
  settings = by_answer answer tries;
  taken = λ e. ap (λ (h : Held). h.taken) (tries.read e [] no_more).row.taken.held;
  width = λ e. (tries.read e [] no_more).width;
}
  where
    -- no bits follow
    no_more : CanCome false []
    no_more = record { bytes = refl; none = λ e. refl }

    by_answer : (said : Result Bool DecodeError) → TriesRow false old new said before after
        → new.held.settings ≡ old.held.settings
    by_answer (Ok true) tried = ap (λ (h : Held). h.settings) (tried.read refl [] no_more).row.taken.held
    by_answer (Ok false) tried = ap (λ (h : Held). h.settings) (tried.left refl)
    by_answer (Err error) tried = by_kind (λ (e : DecodeError). TriesRow false old new (Err e) before after
        → new.held.settings ≡ old.held.settings)
        (λ e fault tried. ap (λ (h : Held). h.settings) (tried.failed fault [] no_more).row.held)
        (λ tried. ap (λ (h : Held). h.settings) (tried.left refl))
        (λ tried. absurd (tried.not_refused refl)) error tried
