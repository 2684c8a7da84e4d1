-- Where a rule is broken, no line stands.
use Rattle.hayro_ccitt.proofs.Names.{ℕ, arith, sym, subst, ◌∙◌, inl, inr, drop, Bits, Row}
use Rattle.std.proofs.lemmas.Int.{ints}
use Rattle.fax_conforms.specs.declared.stops.Rule.{Rule}
use Rattle.fax_conforms.specs.declared.stops.Rule.TheVariants as rule
use Rattle.fax_conforms.specs.declared.stops.Stop.{Stop}
use Rattle.fax_conforms.specs.Standing.{Never}
use Rattle.fax_conforms.specs.Stops.{Breaks, EndsAt, IsBroken, IsTooFar, IsTooNear}
use Rattle.fax_conforms.proofs.SpelledRuns.{same_run}

not_too_far : (here : Bits) → IsTooFar here here → ⊥
not_too_far here (inl (color, run, other, (after, is), (rest, same), less)) =
    omega (arith, less, (same_run run other after rest (sym is ∙ same)).0)
not_too_far here (inr (k, is, farther)) = let less = farther k is in omega (arith, ints, less)

not_too_near : (here : Bits) → IsTooNear here here → ⊥
not_too_near here (inl (color, other, (after, is), (rest, same), some)) =
    omega (arith, some, (same_run 0 other after rest (sym is ∙ same)).0)
not_too_near here (inr (k, is, farther)) = let less = farther k is in omega (arith, ints, less)

-- the bits that are there don't break a rule where they are right
not_broken : (broken : Rule) (place : ℕ) (here : Bits) → Breaks broken place here here → ⊥
not_broken rule.Mode place here (none, mode, is) = none mode is
not_broken rule.Run place here (color, none, run, is) = none run is
not_broken rule.RowEnd place here far = not_too_far here far
not_broken rule.NoPixels place here near = not_too_near here near
not_broken rule.Columns place here never = never
not_broken rule.Eol place here (none, rest, is) = none rest is
not_broken rule.Tag place here (none, some) = some none
not_broken rule.Padding place here (none, rest, is) = none rest is
not_broken rule.PassToEnd place here (is, none) = none is
not_broken rule.Procedure place here never = never
not_broken rule.Kind place here never = never
not_broken rule.Fill place here never = never
not_broken rule.End place here never = never

pub broken_never : (lines : Bits → Row → Bits → Type 0) (columns : ℕ) (bits here : Bits) (stop : Stop)
    → EndsAt columns lines bits here stop → IsBroken stop → Never columns (lines here)
broken_never lines columns bits here (Stop.Violation found) departs broken =
    λ row rest len stands.
    not_broken found.rule found.place (drop found.place bits) (departs.otherwise row (drop found.place bits) rest len
    (subst (λ (x : Bits). lines x row rest) departs.is stands))
broken_never lines columns bits here Stop.OutOfMemory departs broken = absurd broken
