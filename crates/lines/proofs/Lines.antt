-- Lines after one another.
use mathlib.Core.List.{List, [], ◌∷◌, ◌++◌, append_assoc}
use mathlib.Core.Path.{◌≡◌, ◌∙◌, ap, ap₂, refl, sym}
use Prim.Native.Nat.{ℕ, ◌+◌, ◌*◌, ◌≤◌, ◌<◌}
use native.Mathlib.Numerals.{add-one}
use native.Mathlib.Omega.{arith}
use lib.ListN.{get_or, length}
use lib.Seq.{length-sets}
use Rattle.limits.specs.Limits.{card_bytes, max_definitions}
use Rattle.rules.specs.Listing.{decimal, line}
use Rattle.rules.specs.Run.{overwrite}
use Rattle.forms.specs.Forms.{form_at, level_at}
use Rattle.store.specs.Store.{via_at}
use Rattle.store.specs.declared.Facts.{Facts}
use Rattle.context.specs.Lookup.{arity_at}
use Rattle.lines.specs.Text.{card_digits, heading, line_at, line_room, lines_of, number, refusal_text, refused_word, text_of, text_room}
use Rattle.lines.specs.Writes.{Writes}
use Rattle.lines.proofs.Writing.{writes_as, writes-front, writes_then}

pub line-joined : (a b c d e : List ℕ)
    → (a ++ (32 ∷ []) ++ (b ++ (32 ∷ [])) ++ (c ++ (32 ∷ []))) ++ (d ++ (32 ∷ [])) ++ e ++ (10 ∷ []) ≡ line (a ∷ b ∷ c ∷ d ∷ e ∷ [])
line-joined a b c d e = simp append_assoc refl

-- its first three numbers
pub names-put : (names : List ℕ) (facts : List Facts) (g : ℕ) (o₀ o₁ o₂ o₃ : List ℕ) (at p q r x y : ℕ) → x ≡ via_at facts g → y ≡ get_or names g 0
    → Writes o₀ o₁ at (number g 32) p × (p ≤ at + 6) → Writes o₁ o₂ p (number x 32) q × (q ≤ p + 6) → Writes o₂ o₃ q (number y 32) r × (r ≤ q + 6)
    → Writes o₀ o₃ at (number g 32 ++ number (via_at facts g) 32 ++ number (get_or names g 0) 32) r × (r ≤ at + 18)
names-put names facts g o₀ o₁ o₂ o₃ at p q r x y ex ey a b c =
    (writes_as (writes_then (writes_then a.0 b.0) c.0) (ap₂ (λ (j k : ℕ). number g 32 ++ number j 32 ++ number k 32) ex ey), omega (arith, a.1, b.1, c.1))

-- the line of a definition, from its parts
pub line-put : (names : List ℕ) (facts : List Facts) (words : List ℕ) (g : ℕ) (o₀ o₁ o₂ o₃ o₄ : List ℕ) (at p q r s k f : ℕ) → k ≡ arity_at facts g → f ≡ form_at words g
    → Writes o₀ o₁ at (number g 32 ++ number (via_at facts g) 32 ++ number (get_or names g 0) 32) p × (p ≤ at + 18)
    → Writes o₁ o₂ p (number k 32) q × (q ≤ p + 6) → Writes o₂ o₃ q (card_digits k (level_at f)) r × (r ≤ q + 2 * card_bytes) → Writes o₃ o₄ r (10 ∷ []) s
    → Writes o₀ o₄ at (line_at names facts words g) s × (s ≤ at + line_room)
unfolding line_at
line-put names facts words g o₀ o₁ o₂ o₃ o₄ at p q r s k f e ef a b c d =
    let u = writes_then (writes_then (writes_then a.0 b.0) c.0) d in (
      writes_as u
          (line-joined (decimal g) (decimal (via_at facts g)) (decimal (get_or names g 0)) (decimal k) (card_digits k (level_at f))
          ∙ ap₂ (λ (j : ℕ) (h : ℕ). line (decimal g ∷ decimal (via_at facts g) ∷ decimal (get_or names g 0) ∷ decimal j ∷ card_digits j (level_at h) ∷ [])) e ef),
      omega (arith, a.1, b.1, c.1, d.ends),
    )

-- "ok", number of definitions
pub heading-put : (n : ℕ) (o₀ o₁ o₂ o₃ o₄ : List ℕ) (p q r s : ℕ) → Writes o₀ o₁ 0 (111 ∷ []) p → Writes o₁ o₂ p (107 ∷ []) q → Writes o₂ o₃ q (32 ∷ []) r
    → Writes o₃ o₄ r (number n 10) s × (s ≤ r + 6) → Writes o₀ o₄ 0 (heading n) s × (s ≤ 9)
heading-put n o₀ o₁ o₂ o₃ o₄ p q r s a b c d = (writes_then (writes_then (writes_then a b) c) d.0, omega (arith, a.ends, b.ends, c.ends, d.1))

-- The lines of the first g definitions are put.
pub record Lined (names : List ℕ) (facts : List Facts) (words : List ℕ) (n : ℕ) (before : List ℕ) (at : ℕ) (after : List ℕ) (next g : ℕ) : Type 0 where
  pub up_to : g ≤ n
  pub put : Writes before after at (lines_of names facts words g) next
  pub room : next ≤ at + line_room * g

pub lined-start : (names : List ℕ) (facts : List Facts) (words : List ℕ) (n : ℕ) (out : List ℕ) (at : ℕ) → Lined names facts words n out at out at 0
lined-start names facts words n out at = record { up_to = omega arith; put = record { same = refl; ends = omega arith }; room = omega arith }

module _ {names : List ℕ} {facts : List Facts} {words : List ℕ} {n : ℕ} {before : List ℕ} {at : ℕ} {after : List ℕ} {next g : ℕ} (inv : Lined names facts words n before at after next g) where
  pub lined-length : length after ≡ length before
  lined-length = ap length inv.put.same ∙ length-sets before at (lines_of names facts words g)

  pub lined-turn : {after' : List ℕ} {next' : ℕ} → g < n → Writes after after' next (line_at names facts words g) next' × (next' ≤ next + line_room)
      → Lined names facts words n before at after' next' (g + 1)
  lined-turn l w =
      record {
        up_to = omega arith;
        put = writes_as (writes_then inv.put w.0) (ap (lines_of names facts words) (sym (add-one g)));
        room = omega (arith, inv.room, w.1);
      }

  pub lined-done : n ≤ g → n ≤ max_definitions → at ≤ 9 → Writes before after at (lines_of names facts words n) next × (next ≤ text_room)
  lined-done l few low =
      let e : g ≡ n = omega (arith, inv.up_to) in
      (writes_as inv.put (ap (lines_of names facts words) e), omega (arith, inv.room))

-- a text at the front of the memory
abbrev pub Front : List ℕ → List ℕ → List ℕ → ℕ → Type 0
Front before after text r = (after ≡ overwrite text before) × (r ≡ length text) × (r ≤ text_room)

pub listing-put : (names : List ℕ) (facts : List Facts) (words : List ℕ) (n : ℕ) (o₀ o₁ o₂ : List ℕ) (p r : ℕ) → text_room ≤ length o₀ → Writes o₀ o₁ 0 (heading n) p × (p ≤ 9)
    → Writes o₁ o₂ p (lines_of names facts words n) r × (r ≤ text_room) → Front o₀ o₂ (text_of names facts words n) r
listing-put names facts words n o₀ o₁ o₂ p r room a b =
    let w = writes-front o₀ o₂ (text_of names facts words n) r (writes_then a.0 b.0) (omega (arith, b.1)) in
    (w.0, w.1, b.1)

pub refusal-put : (c k : ℕ) (o₀ o₁ o₂ o₃ : List ℕ) (p q r : ℕ) → text_room ≤ length o₀ → Writes o₀ o₁ 0 refused_word p × (p ≤ 8)
    → Writes o₁ o₂ p (number c 32) q × (q ≤ p + 6) → Writes o₂ o₃ q (number k 10) r × (r ≤ q + 6) → Front o₀ o₃ (refusal_text c k) r
refusal-put c k o₀ o₁ o₂ o₃ p q r room a b d =
    let u = writes_as (writes_then (writes_then a.0 b.0) d.0) (ap (λ (l : List ℕ). refused_word ++ l) (append_assoc (decimal c) (32 ∷ []) (number k 10))) in
    let small : r ≤ text_room = omega (arith, a.1, b.1, d.1) in
    let w = writes-front o₀ o₃ (refusal_text c k) r u (omega arith) in
    (w.0, w.1, small)
