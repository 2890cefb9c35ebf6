-- `numbering`: the table of numbers turn by turn, from the last name to the first; and what it shows of the world.
use mathlib.Core.Path.{◌≡◌, refl, sym, ap, ap₂, subst, ◌∙◌}
use mathlib.Core.Bool.{Bool, true, false, cond}
use mathlib.Core.List.{List, [], ◌∷◌}
use Prim.Native.Nat.{ℕ, zero, suc, ◌+◌, ◌-◌, ◌*◌, ◌≤◌, ◌<◌}
use native.Mathlib.Nat.{add-zero}
use native.Mathlib.Omega.{arith}
use borrow.Author.Tests.{eqb-true, eqb-false}
use lib.Dec.{eqb}
use lib.ListN.{get_or, length, length-set, set}
use lib.Seq.{get_or-set_same, get_or-set_other}
use Rattle.limits.specs.Limits.{max_definitions}
use Rattle.context.specs.Parts.{part}
use Rattle.context.specs.Entries.{order_of}
use Rattle.store.specs.Store.{order_slot}
use Rattle.worlds.specs.World.{In, Link, World, brings, place}
use Rattle.entering.specs.Numbering.{Entered, ShowsNumbers}

-- a store past the end changes nothing
pub set_past : (l : List ℕ) (i x : ℕ) → length l ≤ i → l ≡ set l i x
set_past [] i x h = refl
set_past (y ∷ l) zero x h = absurd (omega arith)
set_past (y ∷ l) (suc i) x h = ap (λ (m : List ℕ). y ∷ m) (set_past l i x (omega arith))

pub set_at : (after out : List ℕ) (h x a b : ℕ) → out ≡ set after h x → h ≡ a → x ≡ b → out ≡ set after a b
set_at after out h x a b e p q = e ∙ ap₂ (set after) p q

-- what is done when i names are left
pub record Entering (orders : List ℕ) (base n first : ℕ) (numbers before after : List ℕ) (i : ℕ) : Type 0 where
  pub up_to : i ≤ n
  pub done : Entered (part orders (base + i) (n - i)) (first + i) numbers before after

pub entering-start : (orders : List ℕ) (base n first : ℕ) (numbers next : List ℕ) → Entering orders base n first numbers next next n
unfolding part
entering-start orders base n first numbers next =
    let e : n - n ≡ 0 = omega arith in
    record { up_to = omega arith; done = rw e (record { size = refl; each = λ h l m. absurd (omega arith) }) }

one_more : (names : List ℕ) (g first x : ℕ) (numbers before after : List ℕ) → x ≡ get_or numbers first 0 → Entered names (suc first) numbers before after
    → Entered (g ∷ names) first numbers before (set after g x)
one_more names g first x numbers before after e d =
    record { size = length-set after g x ∙ d.size; each = λ h l m. go h l (eqb h g) refl m }
  where
    go : (h : ℕ) → h < length before → (b : Bool) → eqb h g ≡ b → cond b 0 (suc (place h names)) < suc (length names)
        → get_or (set after g x) h 0 ≡ get_or numbers (first + cond b 0 (suc (place h names))) 0
    go h l true q m =
        let z : h ≡ g = eqb-true h g q in
        let s : g < length after = omega (arith, d.size) in
        ap (λ (k : ℕ). get_or (set after g x) k 0) z ∙ get_or-set_same after g x 0 s ∙ e ∙ ap (λ (k : ℕ). get_or numbers k 0) (sym (add-zero first))
    go h l false q m =
        let z : suc first + place h names ≡ first + suc (place h names) = omega arith in
        get_or-set_other after g h x 0 (eqb-false h g q) ∙ d.each h l (omega arith) ∙ ap (λ (k : ℕ). get_or numbers k 0) z

pub entering-turn : (orders : List ℕ) (base n first : ℕ) (numbers before after out : List ℕ) (i j : ℕ) → Entering orders base n first numbers before after i → 0 < i
    → j ≡ i - 1 → out ≡ set after (get_or orders (base + j) 0) (get_or numbers (first + j) 0) → Entering orders base n first numbers before out j
unfolding part
entering-turn orders base n first numbers before after out i j inv p ej eo =
    let z : i ≡ suc j = omega arith in
    let a : n - j ≡ suc (n - i) = omega (arith, inv.up_to) in
    let b : base + i ≡ suc (base + j) = omega arith in
    let c : first + i ≡ suc (first + j) = omega arith in
    let d : Entered (part orders (suc (base + j)) (n - i)) (suc (first + j)) numbers before after
    = subst (λ (k : ℕ). Entered (part orders (suc (base + j)) (n - i)) k numbers before after) c (subst (λ (k : ℕ). Entered (part orders k (n - i)) (first + i) numbers before after) b inv.done) in
    record {
      up_to = omega (arith, inv.up_to);
      done = subst (λ (m : ℕ). Entered (part orders (base + j) m) (first + j) numbers before out) (sym a)
          (subst (λ (l : List ℕ). Entered (get_or orders (base + j) 0 ∷ part orders (suc (base + j)) (n - i)) (first + j) numbers before l) (sym eo)
          (one_more (part orders (suc (base + j)) (n - i)) (get_or orders (base + j) 0) (first + j) (get_or numbers (first + j) 0) numbers before after refl d));
    }

pub entering-whole : (orders heads : List ℕ) (q base n first : ℕ) (numbers before after : List ℕ) (i : ℕ) → base ≡ q * max_definitions
    → n ≡ get_or heads (order_slot q) 0 → Entering orders base n first numbers before after i → i ≤ 0
    → Entered (order_of orders heads q) first numbers before after
entering-whole orders heads q base n first numbers before after i eb en inv h =
    let a : n - i ≡ get_or heads (order_slot q) 0 = omega arith in
    let b : base + i ≡ q * max_definitions = omega arith in
    let c : first + i ≡ first = omega arith in
    subst (λ (k : ℕ). Entered (order_of orders heads q) k numbers before after) c
    (subst (λ (m : ℕ). Entered (part orders (q * max_definitions) m) (first + i) numbers before after) a
    (subst (λ (k : ℕ). Entered (part orders k (n - i)) (first + i) numbers before after) b inv.done))

-- The numbers of the world one instance further in: a name of the module instanced is, in the world, the definition that was brought from it.
pub numbers-shown : (N : ℕ → Type 0) (l : Link) (w : World) (numbers before after : List ℕ) → ShowsNumbers N numbers w
    → ((h : ℕ) → In h l.names → N (brings l h)) → Entered l.names l.first numbers before after
    → ShowsNumbers (λ h. (h < length before) × In h l.names) after (l ∷ w)
numbers-shown N l w numbers before after s k d =
    record { each = λ h m. d.each h m.0 m.1 ∙ s.each (brings l h) (k h m.1) }
