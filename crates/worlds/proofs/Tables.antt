-- Reading a text by tables of its substitutes' summaries is reading it in its world.
use borrow.Fn.PlainCycle.{is}
use mathlib.Core.List.{List, [], ◌++◌, ◌∷◌}
use mathlib.Core.Path.{◌∙◌, ◌≡◌, refl, sym}
use lib.ListN.{drop, length, length-append, length-take, take}
use native.Mathlib.Omega.{arith}
use Prim.Native.Nat.{◌+◌, ℕ}
use Rattle.theory.proofs.Formed.{AllExpanded}
use Rattle.theory.proofs.Lists.{append-all}
use Rattle.theory.specs.Lists.{All}
use Rattle.theory.specs.Term.{Arities, Kind, Reading, Term, WellFormed, eval, kind_arity}
use Rattle.worlds.proofs.Fit.{Fit, arities_in}
use Rattle.worlds.proofs.Reading.{Means, all_drop, all_take, keeps-in}
use Rattle.worlds.proofs.SameNames.{same_names}
use Rattle.worlds.specs.Tables.{Right, Table, by_tables, declared_by}
use Rattle.worlds.specs.World.{AllDeclared, AnyName, Declared, Names, SubstitutesDeclared, World, eval_at, in_world, meaning_in, params_in, read_declared, read_defined}

module _ {A : Type 0} (M : Reading A) (Good : A → Type 0) (ar : Arities) (bodies : ℕ → Term) (base : Arities) (closed : AllExpanded ar bodies)
    (G : ℕ → List A → A) (means : Means M Good base bodies G) where
  -- a text read by tables that agree with the world on what it may name
  read_same : (w : World) (is : List Arities) (Ss : List (Table A)) (pre : List A) → All Good pre
      → ((k : Kind) (x : ℕ) → Declared AnyName w k x → (vs : List A) → length vs ≡ kind_arity k → All Good vs → read_declared M G w pre k x vs ≡ declared_by M Ss pre k x vs)
      → (n : ℕ) (ρ : List A) (t : Term) → All Good ρ → WellFormed (arities_in base is) n 0 t → Names (Declared AnyName w) t
      → eval (in_world M G w pre) ρ [] t ≡ eval (by_tables M G w Ss pre) ρ [] t
  read_same w is Ss pre a same n ρ t =
      same_names M Good (read_declared M G w pre) (declared_by M Ss pre) (read_defined G w pre) (read_defined G w pre) (keeps-in M Good ar bodies base closed G means w pre a)
      (arities_in base is) (Declared AnyName w) same (λ h us e c. refl) n ρ t

  agree : (w : World) (is : List Arities) (Ss : List (Table A)) → Fit ar bodies base w is → Right M Good G w Ss → SubstitutesDeclared AnyName w
      → (pre : List A) → length pre ≡ params_in w → All Good pre → (k : Kind) (x : ℕ) → Declared AnyName w k x → (vs : List A) → length vs ≡ kind_arity k → All Good vs
      → read_declared M G w pre k x vs ≡ declared_by M Ss pre k x vs
  agree [] [] [] f r d pre q a k x i vs e b = refl
  agree [] [] (S ∷ Ss) f r d pre q a k x i vs e b = absurd r
  agree [] (i ∷ is) Ss f r d pre q a k x j vs e b = absurd f
  agree (l ∷ w) [] Ss f r d pre q a k x i vs e b = absurd f
  agree (l ∷ w) (i ∷ is) [] f r d pre q a k x j vs e b = absurd r
  agree (l ∷ w) (i ∷ is) (S ∷ Ss) f r d pre q a k x j vs e b =
      let us = pre ++ vs in
      let g = append-all Good pre vs a b in
      let n : length us ≡ params_in w + l.params + kind_arity k = rw length-append (omega arith) in
      let p : length (take (params_in w) us) ≡ params_in w = length-take (params_in w) us ∙ omega arith in
      read_same w is Ss (take (params_in w) us) (all_take Good (params_in w) us g) (agree w is Ss f.1 r.1 d.1 (take (params_in w) us) p (all_take Good (params_in w) us g))
      (l.params + kind_arity k) (drop (params_in w) us) (l.substitutes k x) (all_drop Good (params_in w) us g) (f.0.formed k x) (d.0 k x j)
      ∙ sym (r.0 k x j us n g)

  -- Reading by tables is reading in the world.
  pub by-tables : (w : World) (is : List Arities) (Ss : List (Table A)) → Fit ar bodies base w is → Right M Good G w Ss → (n : ℕ) (t : Term) → WellFormed (arities_in base is) n 0 t
      → AllDeclared AnyName w t → (us : List A) → length us ≡ params_in w + n → All Good us → meaning_in M G w t us ≡ eval_at (by_tables M G w Ss) (params_in w) t us
  by-tables w is Ss f r n t wt d us q g =
      let pre = take (params_in w) us in
      read_same w is Ss pre (all_take Good (params_in w) us g) (agree w is Ss f r d.1 pre (length-take (params_in w) us ∙ omega arith) (all_take Good (params_in w) us g))
      n (drop (params_in w) us) t (all_drop Good (params_in w) us g) wt d.0
