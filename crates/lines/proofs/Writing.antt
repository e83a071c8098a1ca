-- Texts written one after the other are one text written. Assumes nothing.
use mathlib.Core.Path.{◌≡◌, refl, sym, ap, ap₂, subst, ◌∙◌}
use mathlib.Core.List.{List, [], ◌∷◌, ◌++◌, append_assoc, append-nil}
use Prim.Native.Nat.{ℕ, suc, ◌+◌, ◌-◌, ◌≤◌, ◌<◌}
use native.Mathlib.Nat.{add_assoc, zero-add}
use native.Mathlib.Numerals.{add-one}
use native.Mathlib.Omega.{arith}
use lib.ListN.{length, take, drop, set, length-append, length-drop, drop_of_length-le}
use lib.Seq.{length-take-le, take_all, take_at, drop-append-add, drop-drop, set_split, append_snoc, paste-zero}
use borrow.Author.Tests.{le-leb, lt-leb}
use Rattle.wsgs.specs.Questions.{Effect, effect}
use Rattle.lines.specs.declared.printer.Printer.{Printer}
use Rattle.lines.specs.Lines.{TextWritten, HasRoom, Printed, with_room, put_effect}

module _ (out : List ℕ) (at : ℕ) where
  -- what stands before a text and the text
  front : (text : List ℕ) → at ≤ length out → length (take at out ++ text) ≡ at + length text
  front text h = length-append (take at out) text ∙ ap (λ n. n + length text) (length-take-le at out h)

  -- nothing written
  pub wrote_none : at ≤ length out → TextWritten out at [] at out
  wrote_none h = record { fits = omega arith; next_place = omega arith; buffer = paste-zero out at [] }

  -- a byte
  pub wrote_byte : (b : ℕ) → at < length out → TextWritten out at (b ∷ []) (at + 1) (set out at b)
  wrote_byte b h =
      record {
        fits = omega arith;
        next_place = refl;
        buffer = set_split out at b h ∙ sym (append_snoc (take at out) b (drop (suc at) out)) ∙ rw (add-one at);
      }

-- the same text by another name
pub wrote_is : {out out' : List ℕ} {at next : ℕ} {t u : List ℕ} → TextWritten out at t next out' → t ≡ u → TextWritten out at u next out'
wrote_is {out} {out'} {at} {next} w e = subst (λ t. TextWritten out at t next out') e w

-- after a text another
module _ {a b : List ℕ} {at next : ℕ} {t : List ℕ} (w : TextWritten a at t next b) where
  pub wrote_long : length b ≡ length a
  wrote_long =
      ap length w.buffer
      ∙ length-append (take at a ++ t) (drop (at + length t) a)
      ∙ omega (arith, w.fits, front a at t (omega (arith, w.fits)), length-drop (at + length t) a)

  pub wrote_then : {c : List ℕ} {end : ℕ} {u : List ℕ} → TextWritten b next u end c → TextWritten a at (t ++ u) end c
  wrote_then {u = u} v =
      let p = take at a ++ t in
      let q = drop (at + length t) a in
      let long : length p ≡ at + length t = front a at t (omega (arith, w.fits)) in
      let drop_after : drop (at + length t + length u) (p ++ q) ≡ drop (at + length t + length u) a =
      ap (λ m. drop (m + length u) (p ++ q)) (sym long) ∙ drop-append-add p q (length u) ∙ drop-drop (length u) (at + length t) a in
      record {
        fits = omega (arith, w.fits, w.next_place, v.fits, wrote_long, length-append t u);
        next_place = omega (arith, w.next_place, v.next_place, length-append t u);
        buffer =
            v.buffer
            ∙ rw (w.next_place, w.buffer, take_at p q (at + length t) long, drop_after, length-append t u, ← add_assoc at (length t) (length u), ← append_assoc (take at a) t u);
      }

-- the same of a printer
pub printed_none : (p : Printer) → p.count ≤ length p.out.now → Printed p [] p
printed_none p h = record { same_buffer = refl; written = wrote_none p.out.now p.count h }

pub printed_is : {p q : Printer} {t u : List ℕ} → Printed p t q → t ≡ u → Printed p u q
printed_is w e = record { same_buffer = w.same_buffer; written = wrote_is w.written e }

pub printed_then : {p q r : Printer} {t u : List ℕ} → Printed p t q → Printed q u r → Printed p (t ++ u) r
printed_then w v = record { same_buffer = v.same_buffer ∙ w.same_buffer; written = wrote_then w.written v.written }

-- the room that a text leaves
pub printed_room : {p q : Printer} {t : List ℕ} → Printed p t q → (n : ℕ) → HasRoom p (length t + n) → HasRoom q n
printed_room w n h = omega (arith, wrote_long w.written, w.written.next_place)

-- a text at the front of a buffer that has room for it, and of one that has not
module _ (most : ℕ) (out text : List ℕ) where
  pub no_room : length out < most → effect 0 out ≡ put_effect most text out
  no_room h = rw (lt-leb most (length out) h)

  pub room : (p q : Printer) {out' : List ℕ} → most ≤ length out → p.out.now ≡ out → p.count ≡ 0 → Printed p text q → out' ≡ q.out.now
      → effect q.count out' ≡ put_effect most text out
  room p q h b c w e =
      rw (le-leb most (length out) h, ← b, e) (ap₂ effect (omega (arith, w.written.next_place)) (w.written.buffer ∙ rw c))

  -- and the way back
  pub wrote_front : {count : ℕ} {out' : List ℕ} → most ≤ length out → length text ≤ most → effect count out' ≡ put_effect most text out
      → TextWritten out 0 text count out'
  wrote_front {count} {out'} h short e =
      let has_room : with_room most out text ≡ text = rw (le-leb most (length out) h) in
      record {
        fits = omega arith;
        next_place = ap (λ (x : Effect ℕ (List ℕ)). x.answer) e ∙ rw (has_room, zero-add (length text));
        buffer = ap (λ (x : Effect ℕ (List ℕ)). x.words) e ∙ rw has_room;
      }

-- a text at the front of the rest of a buffer from a place on stands at that place of the buffer
module _ (out : List ℕ) (at : ℕ) (h : at ≤ length out) where
  abbrev the_rest : List ℕ
  the_rest = take (length out - at) (drop at out)

  rest_is : the_rest ≡ drop at out
  rest_is = take_all (length out - at) (drop at out) (omega (arith, length-drop at out))

  rest_none : drop (length out - at) (drop at out) ≡ []
  rest_none = drop_of_length-le (drop at out) {i = length out - at} (omega (arith, length-drop at out))

  pub wrote_rest : {text part : List ℕ} {count : ℕ} → TextWritten the_rest 0 text count part
      → TextWritten out at text (at + count) (take at out ++ (part ++ drop (length out - at) (drop at out)))
  wrote_rest {text} {part} {count} w =
      record {
        fits = omega (arith, w.fits, ap length rest_is, length-drop at out);
        next_place = rw (w.next_place, zero-add (length text));
        buffer =
            rw (rest_none, append-nil part)
            (ap (λ t. take at out ++ t) (w.buffer ∙ rw (rest_is, zero-add (length text), drop-drop (length text) at out))
            ∙ sym (append_assoc (take at out) text (drop (at + length text) out)));
      }
