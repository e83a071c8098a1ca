-- Laws of the questions on sizes and on a pair: which of them refuses, and what has been asked where none does. Assumes nothing.
use mathlib.Core.Path.{◌≡◌, sym, ◌∙◌}
use mathlib.Core.Bool.{Bool, true, false}
use mathlib.Core.List.{List, [], ◌∷◌}
use Prim.Native.Nat.{ℕ}
use native.Mathlib.Omega.{arith}
use Rattle.std.proofs.Math.Facts.{and_yes}
use Rattle.wsgs.specs.declared.Clock.{Clock}
use Rattle.wsgs.specs.declared.Refused.{Refused}
use Rattle.wsgs.specs.Basics.{between}
use Rattle.wsgs.specs.Told.{number}
use Rattle.wsgs.specs.Questions.{Question, first_no, long_enough, pair_in_range, on_pair}
use Rattle.wsgs.specs.Claims.{Reached}
use Rattle.wsgs.proofs.Laws.Tests.{in_range, between_port}
use Rattle.wsgs.proofs.Laws.Questions.{none_left, asked_no, asked_yes, all_yes, rest_decides, some_no}
use Rattle.questions.specs.Refusals.{SizesInRange, on_sizes, sizes_refusal, pair_refusal}
use Rattle.questions.proofs.Laws.Answers.{number_some}

-- sizes that are accepted are in range
pub sizes_asked : (n f : ℕ) → 0 ≡ sizes_refusal n f → SizesInRange n f
unfolding sizes_refusal
sizes_asked n f e =
    let y = all_yes (on_sizes n f) (omega arith) (sym e) in
    record { ports = in_range 1 32 n y.0; frame = in_range 1 10000 f y.1.0 }

-- the questions on a pair: sizes that are refused; runs too short; numbers that are no ports; and none of these
module _ (c : Clock) (enough : Bool) (i j : ℕ) where
  abbrev sizes : ℕ
  sizes = sizes_refusal c.ports c.frame

  abbrev later : List Question
  later = long_enough enough ∷ pair_in_range c.ports i j ∷ []

  pub pair_sized : (e : Refused) → number e ≡ sizes → number e ≡ pair_refusal c enough i j
  unfolding pair_refusal sizes_refusal
  pair_sized e h = some_no (on_sizes c.ports c.frame) later (number e) h (number_some e)

  module _ (sized : 0 ≡ sizes) where
    after_sizes : first_no later ≡ pair_refusal c enough i j
    unfolding pair_refusal sizes_refusal
    after_sizes = rest_decides (on_sizes c.ports c.frame) later (omega arith) sized

    pub pair_short : false ≡ enough → 4 ≡ pair_refusal c enough i j
    pair_short e = asked_no _ _ (sym e) ∙ after_sizes

    pub pair_outside : true ≡ enough → false ≡ (pair_in_range c.ports i j).yes → 5 ≡ pair_refusal c enough i j
    pair_outside e d = asked_no _ _ (sym d) ∙ asked_yes _ _ (sym e) ∙ after_sizes

    pub pair_inside : true ≡ enough → true ≡ (pair_in_range c.ports i j).yes → 0 ≡ pair_refusal c enough i j
    pair_inside e d = none_left ∙ asked_yes _ _ (sym d) ∙ asked_yes _ _ (sym e) ∙ after_sizes

-- what an accepted pair is
pub pair_asked : (c : Clock) (enough : Bool) (i j : ℕ) → 0 ≡ pair_refusal c enough i j → Reached c enough i j
unfolding pair_refusal
pair_asked c enough i j e =
    let y = all_yes (on_pair c enough i j []) (omega arith) (sym e) in
    let p = and_yes (between 1 c.ports i) (between 1 c.ports j) y.1.1.1.0 in
    record {
      ports = in_range 1 32 c.ports y.0;
      frame = in_range 1 10000 c.frame y.1.0;
      long = y.1.1.0;
      input = between_port c.ports i p.0;
      output = between_port c.ports j p.1;
    }
