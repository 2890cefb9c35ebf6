-- The arguments of a token as parts, by what the token is.
use mathlib.Core.Bool.{Bool, cond, false, not, true}
use mathlib.Core.List.{List, [], ◌++◌, ◌∷◌, append_assoc}
use mathlib.Core.Option.{Option, some}
use mathlib.Core.Option.{none as absent}
use mathlib.Core.Path.{◌∙◌, ◌≡◌, ap, refl, subst, sym}
use Prim.Native.Nat.{ℕ, suc, ◌/◌, ◌%◌}
use native.Mathlib.Omega.{arith}
use lib.Dec.{T, eqb, eqb→eq}
use lib.ListN.{length}
use Rattle.rows.specs.Rows.{arity_number, arity_of, binder_number, binder_of}
use Rattle.theory.proofs.Lists.{any_false, find-has, not-false}
use Rattle.theory.specs.Level.{Binder, Row, binds_in, code_binder, has, in_body, plain, row, row_binder, set_then_body, table}
use Rattle.theory.specs.Lists.{map_option}
use Rattle.theory.specs.Term.{Terms}
use Rattle.theory.specs.Tree.{◌▹◌, count, ⟨⟩}
use Rattle.symbols.specs.Symbol.{Symbol, bytes_of, symbol_bytes}
use Rattle.symbols.specs.Spell.{masked, spell, spells}
use Rattle.spelling.specs.Parts.{parts}

pub bytes-append : (gs hs : List Symbol) → bytes_of (gs ++ hs) ≡ bytes_of gs ++ bytes_of hs
bytes-append [] hs = refl
bytes-append (g ∷ gs) hs = ap (λ (l : List ℕ). symbol_bytes g ++ l) (bytes-append gs hs) ∙ sym (append_assoc (symbol_bytes g) (bytes_of gs) (bytes_of hs))

-- none is written
pub parts-zero : (σ : ℕ → ℕ) (ts : Terms) → parts σ false 0 false ts ≡ []
unfolding parts
parts-zero σ ⟨⟩ = refl
parts-zero σ (t ▹ ts) = parts-zero σ ts

-- the arguments of a call
pub parts-masked : (σ : ℕ → ℕ) (m : ℕ) (ts : Terms) → masked σ m ts ≡ parts σ false m false ts
unfolding parts
parts-masked σ m ⟨⟩ = refl
parts-masked σ m (t ▹ ts) = ap (λ (gs : List Symbol). cond (eqb (m % 2) 1) (spell σ t) [] ++ gs) (parts-masked σ (m / 2) ts)

-- the arguments of a token that binds nothing
pub parts-plain : (σ s : ℕ → ℕ) (m : ℕ) (ts : Terms) → ((i : ℕ) → s i ≡ 0) → spells σ s ts ≡ parts σ true m false ts
unfolding parts
parts-plain σ s m ⟨⟩ h = refl
parts-plain σ s m (t ▹ ts) h = rw (h 0, parts-plain σ (λ i. s (suc i)) (m / 2) ts (λ i. h (suc i)))

-- "body", "set (outside the scope), then body": a code binds a variable in its last argument only
abbrev binds_last : Binder → ℕ → Bool
binds_last plain k = true
binds_last (in_body l) k = eqb k 1
binds_last (set_then_body l) k = eqb k 2

abbrev row_binds_last : Row → Bool
row_binds_last r = binds_last r.binder (length r.takes)

binds-last : (c k : ℕ) → k ≡ arity_of c → T (binds_last (code_binder c) k)
unfolding row arity_of
binds-last c k e = at (row c) refl
  where
    at : (o : Option Row) → row c ≡ o → T (binds_last (row_binder (row c)) k)
    at absent p = subst (λ (o : Option Row). T (binds_last (row_binder o) k)) (sym p) tt
    at (some r) p =
        let h = find-has (λ (r : Row). not (row_binds_last r) ≡ false) (has c) table r (any_false (λ (r : Row). not (row_binds_last r)) table refl) p in
        let n : length r.takes ≡ k = sym (e ∙ ap (λ (o : Option Row). arity_number (map_option (λ r. length r.takes) o)) p) in
        subst (λ (o : Option Row). T (binds_last (row_binder o) k)) (sym p) (subst (λ (m : ℕ). T (binds_last r.binder m)) n (not-false (row_binds_last r) h.0))

by-binder : (σ : ℕ → ℕ) (b : Binder) (ts : Terms) → T (binds_last b (count ts)) → spells σ (binds_in b) ts ≡ parts σ true 0 (not (eqb (binder_number b) 0)) ts
unfolding parts
by-binder σ plain ts h = parts-plain σ (binds_in plain) 0 ts (λ i. refl)
by-binder σ (in_body l) ⟨⟩ h = refl
by-binder σ (in_body l) (t ▹ ⟨⟩) h = refl
by-binder σ (in_body l) (t ▹ u ▹ ts) h = absurd (omega (arith, eqb→eq (count (t ▹ u ▹ ts)) 1 h))
by-binder σ (set_then_body l) ⟨⟩ h = refl
by-binder σ (set_then_body l) (t ▹ ⟨⟩) h = absurd (omega (arith, eqb→eq 1 2 h))
by-binder σ (set_then_body l) (t ▹ u ▹ ⟨⟩) h = refl
by-binder σ (set_then_body l) (t ▹ u ▹ v ▹ ts) h = absurd (omega (arith, eqb→eq (count (t ▹ u ▹ v ▹ ts)) 2 h))

-- the arguments of a built-in
pub parts-built-in : (σ : ℕ → ℕ) (c : ℕ) (ts : Terms) → count ts ≡ arity_of c → spells σ (binds_in (code_binder c)) ts ≡ parts σ true 0 (not (eqb (binder_of c) 0)) ts
unfolding binder_of
parts-built-in σ c ts e = by-binder σ (code_binder c) ts (binds-last c (count ts) e)
