-- Every code gives a lower level at lower levels. So lower parameters give a lower level, and 4 with parameters at 0 is 4 everywhere.
use mathlib.Core.List.{List, [], ◌∷◌}
use mathlib.Core.Option.{Option, none, some}
use mathlib.Core.Path.{◌∙◌, ◌≡◌, ap, refl, subst, sym}
use lib.ListN.{length, replicate}
use native.Mathlib.Omega.{arith}
use Prim.Native.Nat.{ℕ}
use Rattle.theory.proofs.ExpandFirst.{eval-good}
use Rattle.theory.proofs.Fusion.{everywhere}
use Rattle.theory.proofs.Lattice.{below_left, below-same, below-zero, higher-of, highest-below}
use Rattle.theory.proofs.Levels.{levels-kept}
use Rattle.theory.proofs.Lists.{each_all, each-length}
use Rattle.theory.proofs.NearestMask.{Leads, PlaceKeeps, behind-level, behinds-level, found, leads-masks, nearest-mask, none-keeps, own-level}
use Rattle.theory.proofs.RelatedLevels.{related}
use Rattle.theory.specs.Lattice.{Below, EachBelow}
use Rattle.theory.specs.Level.{IsLevel, Mask, Row, builtin_level, row, row_level}
use Rattle.theory.specs.Lists.{All}
use Rattle.theory.specs.NearestMask.{Monotone, OwnAndMasked, behind, behinds, nearest, row_masks, row_own}
use Rattle.theory.specs.Term.{Kind, Term, builtin, constant, declared_level, level, long_way, variable}

-- a place that keeps joins keeps the order
behind-below : (p : Option Mask) → PlaceKeeps p → (k l : ℕ) → IsLevel l → Below k l → Below (behind p k) (behind p l)
behind-below p keeps k l h b =
    let i : IsLevel k = omega (arith, b.0, h) in
    subst (Below (behind p k)) (sym (keeps.joins k l i h) ∙ ap (behind p) (higher-of k l i h b)) (below_left (behind p k) (behind p l) (behind-level p k i) (behind-level p l h))

behinds-below : (ks : List Mask) (ls ms : List ℕ) → All Leads ks → All IsLevel ms → EachBelow ls ms → EachBelow (behinds none ks ls) (behinds none ks ms)
behinds-below [] ls ms n a r = tt
behinds-below (k ∷ ks) [] [] n a r = tt
behinds-below (k ∷ ks) [] (m ∷ ms) n a r = absurd r
behinds-below (k ∷ ks) (l ∷ ls) [] n a r = absurd r
behinds-below (k ∷ ks) (l ∷ ls) (m ∷ ms) n a r =
    (behind-below (nearest none k) (n.0 none none-keeps) l m a.0 r.0, behinds-below ks ls ms n.1 a.1 r.1)

pub codes-below : (c : ℕ) (ls ms : List ℕ) → All IsLevel ms → EachBelow ls ms → Below (builtin_level c ls) (builtin_level c ms)
codes-below c ls ms a r = go (row c) refl (own-level [] [] (builtin c) (length ms) tt tt) (leads-masks (builtin c) (length ms))
  where
    go : (o : Option Row) → row c ≡ o → IsLevel (row_own o (length ms)) → All Leads (row_masks o) → Below (row_level o ls) (row_level o ms)
    go none e h n = below-same 4
    go (some q) e h n =
        let law = found OwnAndMasked nearest-mask.each_row c q e in
        let own = row_own (some q) (length ms) in
        rw (law ls (each_all Below IsLevel IsLevel (λ l m b h. omega (arith, b.0)) ls ms r a), law ms a, each-length Below ls ms r)
        (highest-below (own ∷ behinds none q.takes ls) (own ∷ behinds none q.takes ms) (h, behinds-level none q.takes ms a) (below-same own, behinds-below q.takes ls ms n a r))

level-below : (v w : List ℕ) → All IsLevel w → EachBelow v w → (t : Term) → Below (level long_way v t) (level long_way w t)
level-below v w a r t =
    related Below (λ l h. below-same l) codes-below (λ k h m. Unit {0}) declared_level names v w a r t (everywhere (λ k h m. Unit {0}) (λ k h m. tt) 0 t)
  where
    names : (k : ℕ) (d : Kind) (x : ℕ) (ls ms : List ℕ) → Unit {0} → All IsLevel ms → EachBelow ls ms → Below (declared_level d x ls) (declared_level d x ms)
    names k (constant n) x ls ms p a r = highest-below ls ms a r
    names k variable x ls ms p a r = below-same 1

each-zero : (ls : List ℕ) → EachBelow (replicate (length ls) 0) ls
each-zero [] = tt
each-zero (l ∷ ls) = (below-zero l, each-zero ls)

pub monotone : Monotone
monotone =
    record {
      lower_parameters = λ v w t a r. level-below v w a r t;
      four_everywhere = λ v t a e.
          let b = level-below (replicate (length v) 0) v a (each-zero v) t in
          let h : IsLevel (level long_way v t) = eval-good long_way IsLevel levels-kept v a t [] tt in
          omega (arith, b.0, e, h);
    }
