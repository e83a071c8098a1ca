-- What the ledger of a list of calls says of every pair in every frame, in numbers, what headroom the pairs have after the list, and what
-- previews show after it; and where another hand's numbers differ. Assumes nothing.
use Rattle.std.specs.Prelude.{Bool, true, false, ◌&&◌, eqb, ℤ}
use mathlib.Core.List.{List, [], ◌∷◌, ◌++◌}
use Prim.Native.Nat.{ℕ, zero, suc}
use Rattle.wsgs.specs.Preview.{BookOperation}
use Rattle.wsgs.specs.Switch.{Switch, Call, final}
use Rattle.wsgs.specs.Edges.{headroom_is, preview_is}
use Rattle.wsgs.specs.Ledger.{Ledger, ledger_of, slot_of_tick, begins_frame, reading, others, waited, served}

-- of a pair in the frame that begins with slot first: a, m, b, and how often pass one serves it
pub data Claim : Type 0 where
  claim : (input output first booked others waited served : ℕ) → Claim

unfoldable pub same_claim : Claim → Claim → Bool
same_claim (claim i j f a m b s) (claim i' j' f' a' m' b' s') =
    eqb i i' && (eqb j j' && (eqb f f' && (eqb a a' && (eqb m m' && (eqb b b' && eqb s s')))))

-- the claims of 1, .., of n, one after the other
unfoldable pub joined : (ℕ → List Claim) → ℕ → List Claim
joined of zero = []
joined of (suc n) = joined of n ++ of (suc n)

module _ (l : Ledger) where
  -- the first slots of the frames that begin in the k slots from slot s on
  unfoldable pub first_slots : ℕ → ℕ → List ℕ
  first_slots s zero = []
  first_slots s (suc k) = elim (begins_frame l s) [ true ↦ s ∷ first_slots (suc s) k | false ↦ first_slots (suc s) k ]

  -- the claims of the pair (i, j) in the frames with these first slots
  unfoldable pub claims_of_pair : List ℕ → ℕ → ℕ → List Claim
  unfolding reading others waited served
  claims_of_pair [] i j = []
  claims_of_pair (f ∷ fs) i j = claim i j f (reading l f i j) (others l f i j) (waited l f i j) (served l f i j) ∷ claims_of_pair fs i j

  -- the claims of every pair in every frame that has begun by the last answered slot
  unfoldable pub claims : List Claim
  unfolding first_slots claims_of_pair joined
  claims =
      let fs : List ℕ = first_slots 1 (slot_of_tick l.form l.ticks) in
      joined (λ i. joined (λ j. claims_of_pair fs i j) l.ports) l.ports

-- the number of the first claim in which two lists differ, the first being k; 0 where they do not
unfoldable pub first_difference : ℕ → List Claim → List Claim → ℕ
unfolding same_claim
first_difference k [] [] = 0
first_difference k [] (d ∷ ds) = k
first_difference k (c ∷ cs) [] = k
first_difference k (c ∷ cs) (d ∷ ds) = elim (same_claim c d) [ true ↦ first_difference (suc k) cs ds | false ↦ k ]

-- what the call for the headroom of a pair tells: its refusal, and the number
pub data Told : Type 0 where
  told : (input output refusal : ℕ) → (number : ℤ) → Told

unfoldable pub is_told : Switch → Told → Bool
unfolding headroom_is
is_told s (told i j r z) = headroom_is s i j r z

-- the number of the first headroom of a switch that is not as told, the first being k; 0 where all are
unfoldable pub first_untold : ℕ → Switch → List Told → ℕ
unfolding is_told
first_untold k s [] = 0
first_untold k s (t ∷ ts) = elim (is_told s t) [ true ↦ first_untold (suc k) s ts | false ↦ k ]

-- what the preview of an operation shows: its refusal, and the sums of row and column
pub data Showing : Type 0 where
  showing : BookOperation → (input output amount refusal row column : ℕ) → Showing

unfoldable pub is_shown : Switch → Showing → Bool
unfolding preview_is
is_shown s (showing o i j d r row column) = preview_is s o i j d r row column

-- the number of the first preview on a switch that does not show this, the first being k; 0 where all do
unfoldable pub first_unshown : ℕ → Switch → List Showing → ℕ
unfolding is_shown
first_unshown k s [] = 0
first_unshown k s (p ∷ ps) = elim (is_shown s p) [ true ↦ first_unshown (suc k) s ps | false ↦ k ]

-- a list of calls on a switch, and what another hand has of it: the claims, and headrooms and previews of the switch that it leaves
pub record Case : Type 0 where
  pub switch : Switch
  pub calls : List Call
  pub expected : List Claim
  pub headrooms : List Told
  pub previews : List Showing

-- the number of the first claim that is not as the ledger of the calls has it; 0 where all are
unfoldable pub first_wrong : Case → ℕ
unfolding ledger_of claims first_difference
first_wrong c = first_difference 1 (claims (ledger_of c.calls c.switch)) c.expected

-- the number of the first headroom that is not as the definition has it after the calls; 0 where all are
unfoldable pub first_wrong_headroom : Case → ℕ
unfolding first_untold final
first_wrong_headroom c = first_untold 1 (final c.calls c.switch) c.headrooms

-- the number of the first preview that is not as the definition has it after the calls; 0 where all are
unfoldable pub first_wrong_preview : Case → ℕ
unfolding first_unshown final
first_wrong_preview c = first_unshown 1 (final c.calls c.switch) c.previews
