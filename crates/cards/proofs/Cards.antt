-- The lent memory set to 0, and card after card filled.
use borrow.Author.Tests.{ltb-false}
use mathlib.Core.Bool.{Bool, cond, false, true}
use mathlib.Core.List.{List, ◌++◌}
use mathlib.Core.Path.{◌∙◌, ◌≡◌, ap, ap₂, refl, sym}
use Prim.Native.Nat.{ℕ, zero, suc, ◌+◌, ◌*◌, ◌≤◌, ◌<◌}
use native.Mathlib.Numerals.{add-one}
use native.Mathlib.Omega.{arith}
use lib.Dec.{ltb}
use Rattle.std.proofs.Common.{ext_get_or}
use lib.ListN.{drop, get_or, get_or-replicate, length, length-append, length-replicate, replicate}
use lib.Seq.{drop-append-add, drop-drop, paste, take_all, take_at}
use Rattle.limits.specs.Limits.{card_bytes, card_memory_bytes, max_arity, max_definitions}
use Rattle.theory.proofs.Cards.{card-length}
use Rattle.theory.specs.Card.{card_of}
use Rattle.rules.specs.Run.{overwrite}
use Rattle.forms.specs.Forms.{form_at, level_at}
use Rattle.context.specs.Lookup.{arity_at}
use Rattle.store.specs.Store.{kind_at}
use Rattle.store.specs.declared.Facts.{Facts}
use Rattle.cards.specs.Cards.{card_at, cards_of}

-- n bytes, each 0, before what stays
pub cleared : (n : ℕ) (zeros m : List ℕ) → length zeros ≡ n → ((k : ℕ) → k < n → get_or zeros k 0 ≡ 0) → zeros ++ drop n m ≡ overwrite (replicate n 0) m
cleared n zeros m long each =
    let l = length-replicate {A = ℕ} n 0 in
    let same = ext_get_or 0 zeros (replicate n 0) (long ∙ sym l) (λ k h. each k (omega (arith, long)) ∙ sym (get_or-replicate n k 0 0 (omega (arith, long)))) in
    ap₂ (λ (a : List ℕ) (j : ℕ). a ++ drop j m) same (sym l)

module _ (facts : List Facts) (words : List ℕ) (few : (g : ℕ) → arity_at facts g ≤ max_arity) where
  pub length-cards : (n : ℕ) → length (cards_of facts words n) ≡ card_bytes * n
  length-cards zero = omega arith
  length-cards (suc n) = rw length-append (omega (arith, length-cards n, card-length (arity_at facts n) (level_at (form_at words n)) (few n)))

  -- one card more
  pub fill-turn : (n : ℕ) (m out out' : List ℕ) → card_bytes * n + card_bytes ≤ length m → out ≡ overwrite (cards_of facts words n) m
      → out' ≡ paste out (card_bytes * n) (card_at facts words n) card_bytes → out' ≡ overwrite (cards_of facts words (n + 1)) m
  fill-turn n m out out' room e f =
      let l = length-cards n in
      let k = card-length (arity_at facts n) (level_at (form_at words n)) (few n) in
      let all = cards_of facts words n in
      let one = card_at facts words n in
      f ∙ ap (λ (o : List ℕ). paste o (card_bytes * n) one card_bytes) e
      ∙ ap₂ (λ (a b : List ℕ). a ++ b)
      (ap₂ (λ (a b : List ℕ). a ++ b) (take_at all (drop (length all) m) (card_bytes * n) l) (take_all card_bytes one (omega arith)))
      (ap (λ (j : ℕ). drop j (all ++ drop (length all) m)) (let z : card_bytes * n + card_bytes ≡ length all + card_bytes = omega arith in z)
      ∙ drop-append-add all (drop (length all) m) card_bytes ∙ drop-drop card_bytes (length all) m
      ∙ ap (λ (j : ℕ). drop j m) (let z : length all + card_bytes ≡ length (all ++ one) = rw length-append (omega arith) in z))
      ∙ ap (λ (j : ℕ). overwrite (cards_of facts words j) m) (sym (add-one n))

pub few-params : (facts : List Facts) (g : ℕ) → arity_at facts g ≤ max_arity
few-params facts g = go (ltb max_arity (kind_at facts g)) refl
  where
    go : (b : Bool) → ltb max_arity (kind_at facts g) ≡ b → cond b 0 (kind_at facts g) ≤ max_arity
    go true e = omega arith
    go false e = ltb-false max_arity (kind_at facts g) e

-- the same of what the code reads
pub card-turn : (facts : List Facts) (words : List ℕ) (n g k f : ℕ) (m out out' : List ℕ) → out ≡ overwrite (cards_of facts words g) m → f ≡ form_at words g
    → k ≡ arity_at facts g → out' ≡ paste out (card_bytes * g) (card_of k (level_at f)) card_bytes
    → g < n → n ≤ max_definitions → card_memory_bytes ≤ length m → out' ≡ overwrite (cards_of facts words (g + 1)) m
card-turn facts words n g k f m out out' e p r u l few room =
    fill-turn facts words (few-params facts) g m out out' (omega arith) e
    (u ∙ ap₂ (λ (j : ℕ) (h : ℕ). paste out (card_bytes * g) (card_of j (level_at h)) card_bytes) r p)

pub cards-done : (facts : List Facts) (words : List ℕ) (n g : ℕ) (m out : List ℕ) → out ≡ overwrite (cards_of facts words g) m → g ≤ n → n ≤ g → out ≡ overwrite (cards_of facts words n) m
cards-done facts words n g m out e a b = e ∙ ap (λ (j : ℕ). overwrite (cards_of facts words j) m) (let z : g ≡ n = omega arith in z)
