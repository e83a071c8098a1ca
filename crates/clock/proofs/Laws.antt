-- A refused tick by value: its answer with the clock that it was given, which has stayed. Assumes nothing.
use mathlib.Core.Path.{◌≡◌, sym, ap, ◌∙◌}
use Rattle.std.specs.Prelude.{Result, Ok, Err}
use Rattle.std.specs.Result.{IsErrAnd}
use Rattle.wsgs.specs.declared.Clock.{Clock}
use Rattle.wsgs.specs.declared.Refused.{Refused}
use Rattle.wsgs.specs.declared.Ticked.{Ticked}
use Rattle.wsgs.specs.Questions.{Outcome, effect}
use Rattle.wsgs.specs.Answers.{tick_effect, answer_effect, by_value}
use Rattle.wsgs.specs.Told.{tick_told, answer_told}

pub refused_by_value : {Runs : Type 0} (k advanced : Clock) (w : Runs) (o : Outcome Runs) (r : Result Ticked Refused) (e : Refused) → IsErrAnd r (λ d. d ≡ e)
    → advanced ≡ k → effect (answer_told (Err e)) (advanced, w) ≡ answer_effect o → effect (tick_told k r) w ≡ tick_effect o
refused_by_value k advanced w o (Ok t) e h s told = absurd h
refused_by_value k advanced w o (Err d) e h s told = rw h (ap (λ c. effect (tick_told c (Err e)) w) (sym s) ∙ ap by_value told)
