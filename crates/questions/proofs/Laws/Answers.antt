-- What a test of the code says of the question that it equals, and a refusal that is handed on. Assumes nothing.
use mathlib.Core.Path.{◌≡◌, sym, ◌∙◌, ap}
use mathlib.Core.Bool.{Bool, true, false, not}
use mathlib.Core.Logic.{◌≢◌}
use Prim.Native.Nat.{ℕ}
use native.Mathlib.Omega.{arith}
use borrow.Author.Tests.{not-true, not-false}
use Rattle.std.specs.Prelude.{Result, Ok, Err}
use Rattle.std.specs.Result.{IsErrAnd}
use Rattle.wsgs.specs.declared.Refused.{Refused}
use Rattle.wsgs.specs.declared.Refused.TheVariants as Why
use Rattle.wsgs.specs.Told.{number, refusal_number}

-- one that is answered no, and one that is answered yes
pub said_no : {a b : Bool} → a ≡ b → not a ≡ true → b ≡ false
said_no e h = sym e ∙ not-true _ h

pub said_yes : {a b : Bool} → a ≡ b → not a ≡ false → b ≡ true
said_yes e h = sym e ∙ not-false _ h

-- no refusal has the number 0
pub number_some : (e : Refused) → number e ≢ 0
number_some Why.Ports = λ e. omega arith
number_some Why.Frame = λ e. omega arith
number_some Why.ShortFrame = λ e. omega arith
number_some Why.Runs = λ e. omega arith
number_some Why.Pair = λ e. omega arith
number_some Why.Amount = λ e. omega arith
number_some Why.Clock = λ e. omega arith
number_some Why.Row = λ e. omega arith
number_some Why.Column = λ e. omega arith
number_some Why.Held = λ e. omega arith
number_some Why.Queue = λ e. omega arith
number_some Why.Record = λ e. omega arith
number_some Why.Fields = λ e. omega arith
number_some Why.Number = λ e. omega arith
number_some Why.Sharing = λ e. omega arith

-- one that `?` hands on keeps its number
pub handed_on : {A : Type 0} (r : Result A Refused) (e : Refused) {n : ℕ} → IsErrAnd r (λ d. d ≡ e) → number e ≡ n → refusal_number r ≡ n
handed_on (Ok x) e h k = absurd h
handed_on (Err d) e h k = ap number h ∙ k
