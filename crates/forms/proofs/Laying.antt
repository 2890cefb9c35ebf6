-- The bytes of a card, and a card stored byte by byte.
use mathlib.Core.List.{List, [], ◌∷◌, ◌++◌}
use mathlib.Core.Path.{◌≡◌, refl, sym, ap, ap₂, ◌∙◌}
use Prim.Native.Nat.{ℕ, zero, suc, ◌%◌, ◌*◌, ◌+◌, ◌-◌, ◌/◌, ◌^◌, ◌<◌, ◌≤◌}
use native.Mathlib.Numerals.{add-one}
use native.Mathlib.Omega.{arith}
use lib.ListN.{get_or-append, get_or, length, length-append, set}
use lib.Seq.{get_or-append-add, length-paste, paste, paste-suc, paste-zero}
use Rattle.limits.specs.Limits.{card_bytes, max_arity}
use Rattle.theory.specs.Card.{four_bytes}
use Rattle.forms.specs.declared.card.Card.{Card}
use Rattle.forms.specs.Cards.{laid_out}

module _ (c : Card) (eight : length c.masks ≡ max_arity) where
  pub mask-byte-at : (k : ℕ) → 3 ≤ k → k < 11 → get_or c.masks (k - 3) 0 ≡ get_or (laid_out c) k 0
  mask-byte-at k h g =
      let e : suc (suc (suc (k - 3))) ≡ k = omega arith in
      sym (get_or-append c.masks (four_bytes c.pairs ++ (0 ∷ [])) 0 (k - 3) (omega arith)) ∙ ap (λ (j : ℕ). get_or (laid_out c) j 0) e

  last-at : (m : ℕ) → get_or (four_bytes c.pairs ++ (0 ∷ [])) m 0 ≡ get_or (laid_out c) (11 + m) 0
  last-at m =
      let e : suc (suc (suc (max_arity + m))) ≡ 11 + m = omega arith in
      sym (get_or-append-add c.masks (four_bytes c.pairs ++ (0 ∷ [])) m 0) ∙ ap (λ (j : ℕ). get_or (c.masks ++ (four_bytes c.pairs ++ (0 ∷ []))) (j + m) 0) eight
      ∙ ap (λ (j : ℕ). get_or (laid_out c) j 0) e

  pair-byte : (m : ℕ) → m < 4 → c.pairs / 2 ^ ((3 - m) * 8) % 256 ≡ get_or (four_bytes c.pairs ++ (0 ∷ [])) m 0
  pair-byte zero h = refl
  pair-byte (suc zero) h = refl
  pair-byte (suc (suc zero)) h = refl
  pair-byte (suc (suc (suc zero))) h = omega arith
  pair-byte (suc (suc (suc (suc m)))) h = absurd (omega arith)

  pub pair-byte-at : (k s : ℕ) → 11 ≤ k → k < 15 → s ≡ (14 - k) * 8 → c.pairs / 2 ^ s % 256 ≡ get_or (laid_out c) k 0
  pair-byte-at k s h g e =
      let d : s ≡ (3 - (k - 11)) * 8 = omega arith in
      let p : 11 + (k - 11) ≡ k = omega arith in
      ap (λ (x : ℕ). c.pairs / 2 ^ x % 256) d ∙ pair-byte (k - 11) (omega arith) ∙ last-at (k - 11) ∙ ap (λ (j : ℕ). get_or (laid_out c) j 0) p

  pub last-byte-at : (k : ℕ) → 15 ≤ k → k < card_bytes → 0 ≡ get_or (laid_out c) k 0
  last-byte-at k h g = let e : 15 ≡ k = omega arith in last-at 4 ∙ ap (λ (j : ℕ). get_or (laid_out c) j 0) e

  laid-length : length (laid_out c) ≡ card_bytes
  laid-length = ap (λ (k : ℕ). suc (suc (suc k))) (length-append c.masks (four_bytes c.pairs ++ (0 ∷ [])) ∙ ap (λ (k : ℕ). k + 5) eight)

-- the first k bytes stand in their place
pub record Laid (c : Card) (d : List ℕ) (at : ℕ) (out : List ℕ) (k : ℕ) : Type 0 where
  pub up_to : k ≤ card_bytes
  pub same : out ≡ paste d at (laid_out c) k

pub lay-start : (c : Card) (d : List ℕ) (at : ℕ) → Laid c d at d 0
lay-start c d at = record { up_to = omega arith; same = paste-zero d at (laid_out c) }

module _ {c : Card} {d : List ℕ} {at : ℕ} {out : List ℕ} {k : ℕ} (inv : Laid c d at out k) (eight : length c.masks ≡ max_arity) (room : at + card_bytes ≤ length d) where
  pub lay-length : length out ≡ length d
  lay-length = ap length inv.same ∙ length-paste d at (laid_out c) k (omega (arith, inv.up_to)) (rw (laid-length c eight) inv.up_to)

  pub lay-turn : (x : ℕ) → k < card_bytes → x ≡ get_or (laid_out c) k 0 → Laid c d at (set out (at + k) x) (k + 1)
  lay-turn x h e =
      record {
        up_to = omega arith;
        same = ap₂ (λ (o : List ℕ) (y : ℕ). set o (at + k) y) inv.same e ∙ paste-suc d at (laid_out c) k 0 (omega arith) (rw (laid-length c eight) h)
            ∙ ap (paste d at (laid_out c)) (sym (add-one k));
      }

  pub lay-whole : card_bytes ≤ k → out ≡ paste d at (laid_out c) card_bytes
  lay-whole h = inv.same ∙ ap (paste d at (laid_out c)) (let e : k ≡ card_bytes = omega (arith, inv.up_to) in e)

pub stored : (c : Card) (d out l : List ℕ) (at : ℕ) → laid_out c ≡ l → out ≡ paste d at (laid_out c) card_bytes → out ≡ paste d at l card_bytes
stored c d out l at e p = p ∙ ap (λ (x : List ℕ). paste d at x card_bytes) e
