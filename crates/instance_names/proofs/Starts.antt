-- The positions where substitutions begin, and the substitutions that the rules read there.
use borrow.Author.Tests.{eq-eqb, eqb-false, eqb-true, le-ltb, ne_eqb}
use mathlib.Core.Bool.{Bool, ◌||◌, cond, false, true}
use mathlib.Core.List.{List, [], ◌∷◌}
use mathlib.Core.Option.{some}
use mathlib.Core.Path.{◌∙◌, ◌≡◌, ap, ap₂, refl, sym}
use Prim.Native.Nat.{ℕ, ◌+◌, ◌≤◌}
use native.Mathlib.Omega.{arith}
use lib.Dec.{eqb, ltb}
use lib.ListN.{length}
use Rattle.theory.specs.Lists.{any, find, is_some, map_option, repeats}
use Rattle.rules.specs.Expression.{expression}
use Rattle.rules.specs.Field.{Substitution}
use Rattle.rules.specs.Instance.{substitution_for}
use Rattle.tokens.specs.Token.{number_at}
use Rattle.fields.specs.Substitution.{next_substitution, part}
use Rattle.agree.specs.Parts.{SubstitutionsAt}
use Rattle.entering.specs.Written.{written_at}
use Rattle.std.specs.Prelude.{Some}
use Rattle.instance_names.specs.Sites.{is_written, next_start, repeated_from, starts}

-- a substitution stands at a position
pub record Stands (file : List ℕ) (end at : ℕ) (y : Substitution) : Type 0 where
  pub name : number_at file at ≡ y.0
  pub read : expression.read (part file (at + 4) (number_at file (at + 2))) ≡ some y.1
  pub room : next_substitution file at ≤ end

pub any-find : {A B : Type 0} (t : A → Bool) (f : A → B) (xs : List A) → any t xs ≡ is_some (map_option f (find t xs))
any-find t f [] = refl
any-find t f (x ∷ xs) = go (t x) (any-find t f xs)
  where
    go : (b : Bool) → any t xs ≡ is_some (map_option f (find t xs)) → b || any t xs ≡ is_some (map_option f (cond b (some x) (find t xs)))
    go true e = refl
    go false e = e

-- equality of numbers, the other way round
pub eqb-turned : (a b : ℕ) (t : Bool) → eqb a b ≡ t → eqb b a ≡ t
eqb-turned a b true e = eq-eqb b a (sym (eqb-true a b e))
eqb-turned a b false e = ne_eqb b a (λ (z : b ≡ a). eqb-false a b e (sym z))

module _ (file : List ℕ) (end : ℕ) (whole : end ≤ length file) where
  pub in-file : (at : ℕ) (y : Substitution) → Stands file end at y → ltb (length file) at ≡ false
  in-file at y h = le-ltb (length file) at (omega (arith, h.room))

  -- a test of the positions is a test of the substitutions
  pub any-starts : (t : ℕ → Bool) (u : Substitution → Bool) → ((at : ℕ) (y : Substitution) → Stands file end at y → t at ≡ u y)
      → (ss : List Substitution) (at : ℕ) → SubstitutionsAt file at end ss → any t (starts (length ss) file at) ≡ any u ss
  unfolding starts next_start
  any-starts t u same [] at h = refl
  any-starts t u same (y ∷ ss) at (e, q, r, h) =
      let here : Stands file end at y = record { name = e; read = q; room = r } in
      let rest = any-starts t u same ss (next_substitution file at) h in
      rw (in-file at y here) (ap₂ ◌||◌ (same at y here) rest)

  -- something is written for a name, by position, exactly if there is a substitution for it
  pub written-some : (n : ℕ) (ss : List Substitution) (at : ℕ) → SubstitutionsAt file at end ss
      → is_written (written_at (length ss) file at n) ≡ is_some (substitution_for ss n)
  unfolding written_at
  written-some n [] at h = refl
  written-some n (y ∷ ss) at (e, q, r, h) =
      rw (in-file at y (record { name = e; read = q; room = r })) (go (eqb n y.0) (eqb-turned n (number_at file at) (eqb n y.0) (ap (eqb n) e)) (written-some n ss (next_substitution file at) h))
    where
      go : (b : Bool) → eqb (number_at file at) n ≡ b → is_written (written_at (length ss) file (next_substitution file at) n) ≡ is_some (substitution_for ss n)
          → is_written (cond (eqb (number_at file at) n) (Some (at + 4)) (written_at (length ss) file (next_substitution file at) n))
          ≡ is_some (map_option (λ s. s.1) (cond b (some y) (find (λ (s : Substitution). eqb n s.0) ss)))
      go true p below = rw p refl
      go false p below = rw p below

  -- 11: a name substituted twice
  pub repeated-law : (ss : List Substitution) (at : ℕ) → SubstitutionsAt file at end ss
      → repeated_from file (length ss) at ≡ repeats (λ (x y : Substitution). eqb x.0 y.0) ss
  unfolding repeated_from next_start
  repeated-law [] at h = refl
  repeated-law (y ∷ ss) at (e, q, r, h) =
      rw (in-file at y (record { name = e; read = q; room = r }))
      (ap₂ ◌||◌
      (written-some (number_at file at) ss (next_substitution file at) h ∙ ap (λ (n : ℕ). is_some (substitution_for ss n)) e
      ∙ sym (any-find (λ (z : Substitution). eqb y.0 z.0) (λ s. s.1) ss))
      (repeated-law ss (next_substitution file at) h))
