-- A contract of several clauses is a row of facts side by side: what follows from them together. Assumes nothing.
use seplogic.Ra.Ura.{Ura}
use base.Logic.{ent, sep, via, snd∗}
use contract.Monad.{fact, fact_i, fact_use, fact∗}

module _ {M : Type 1} (𝓤 : Ura M) where
  pub from_two : {P Q R : Type 0} → (P → Q → R) → ent 𝓤 (sep 𝓤 (fact 𝓤 P) (fact 𝓤 Q)) (fact 𝓤 R)
  from_two {P} {Q} {R} f =
      fact_use 𝓤 P (fact∗ 𝓤 P (fact 𝓤 Q)) (λ p. fact_use 𝓤 Q (snd∗ 𝓤 (fact 𝓤 P) (fact 𝓤 Q)) (λ q. fact_i 𝓤 R _ (f p q)))

  pub from_three : {P Q R S : Type 0} → (P → Q → R → S) → ent 𝓤 (sep 𝓤 (fact 𝓤 P) (sep 𝓤 (fact 𝓤 Q) (fact 𝓤 R))) (fact 𝓤 S)
  from_three {P} {Q} {R} {S} f =
      fact_use 𝓤 P (fact∗ 𝓤 P (sep 𝓤 (fact 𝓤 Q) (fact 𝓤 R)))
      (λ p. via 𝓤 (sep 𝓤 (fact 𝓤 Q) (fact 𝓤 R)) (snd∗ 𝓤 (fact 𝓤 P) (sep 𝓤 (fact 𝓤 Q) (fact 𝓤 R))) (from_two (f p)))

  pub from_four : {P Q R S T : Type 0} → (P → Q → R → S → T)
      → ent 𝓤 (sep 𝓤 (fact 𝓤 P) (sep 𝓤 (fact 𝓤 Q) (sep 𝓤 (fact 𝓤 R) (fact 𝓤 S)))) (fact 𝓤 T)
  from_four {P} {Q} {R} {S} {T} f =
      fact_use 𝓤 P (fact∗ 𝓤 P (sep 𝓤 (fact 𝓤 Q) (sep 𝓤 (fact 𝓤 R) (fact 𝓤 S))))
      (λ p. via 𝓤 (sep 𝓤 (fact 𝓤 Q) (sep 𝓤 (fact 𝓤 R) (fact 𝓤 S)))
      (snd∗ 𝓤 (fact 𝓤 P) (sep 𝓤 (fact 𝓤 Q) (sep 𝓤 (fact 𝓤 R) (fact 𝓤 S)))) (from_three (f p)))
