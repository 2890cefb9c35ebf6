-- Limits and causes of an expression from those of its parts: one lemma for each way through the code of a walk.
use mathlib.Core.Bool.{Bool, false, true, ◌||◌}
use mathlib.Core.List.{List}
use mathlib.Core.Path.{◌∙◌, ◌≡◌, ap, refl}
use Prim.Native.Nat.{ℕ, ◌+◌, ◌-◌, ◌<◌, ◌≤◌}
use Rattle.std.specs.Prelude.{Option, None, Some}
use Rattle.limits.specs.Limits.{max_arity}
use Rattle.tokens.specs.Expr.{Founds, expr_at, several}
use Rattle.tokens.specs.Fold.{Algebra, under_of}
use Rattle.tokens.specs.Token.{arguments_of, token_at, width_of}
use Rattle.tokens.specs.declared.Token.{Token}
use Rattle.tokens.proofs.Folding.{Scoped, scoped_at}
use Rattle.tokens.proofs.Reading.{several-more}
use Rattle.agree.specs.Folds.{searching}
use Rattle.resolve.specs.Look.{look_in}
use Rattle.resolve.specs.Walk.{inside, miscounted_at, miscounted_in, unknown_at, unknown_in}
use Rattle.resolve.specs.declared.Look.{Look}
use Rattle.resolve.specs.declared.Looked.{Looked}
use Rattle.skimming.specs.Skims.{AllSkimmed, Skimmed, Skims, SkimsAll}
use Rattle.skimming.proofs.Keeping.{kept-count, kept-limit, kept-lost, kept-nothing, kept-token, kepts-later, kepts-lost, kepts-more, kepts-none}
use Rattle.query_strings.specs.Reads.{Joins, Over}
use Rattle.store.specs.declared.Facts.{Facts}

module _ (names : List ℕ) (facts : List Facts) (cs : List ℕ) (p : ℕ) where
  abbrev U : Algebra ℕ Bool Bool
  U = searching (unknown_in names facts cs p)

  abbrev M : Algebra ℕ Bool Bool
  M = searching (miscounted_in names facts cs)

  -- an expression
  module _ (e n : ℕ) (s : List ℕ) (at : ℕ) where
    pub skims-limit : n ≡ 0 → Skimmed names facts cs p e (expr_at n s at) None
    skims-limit z = λ x. record {
      unknown = kept-limit U n s at e false x.unknown x.next z refl;
      miscounted = kept-limit M n s at e false x.miscounted x.next z refl;
    }

    module _ (o : Option Token) (et : o ≡ token_at s at) where
      pub skims-nothing : o ≡ None → Skimmed names facts cs p e (expr_at n s at) None
      skims-nothing z = λ x. record {
        unknown = kept-nothing U n s at e false x.unknown x.next o et z refl;
        miscounted = kept-nothing M n s at e false x.miscounted x.next o et z refl;
      }

      module _ (t : Token) (there : o ≡ Some t) (deep : n ≡ 0 → ⊥) (k : ℕ) (ek : k ≡ arguments_of t) where
        pub skims-count : max_arity < k → Skimmed names facts cs p e (expr_at n s at) None
        skims-count z = λ x. record {
          unknown = kept-count U n s at e false x.unknown x.next o et t there deep k ek z refl;
          miscounted = kept-count M n s at e false x.miscounted x.next o et t there deep k ek z refl;
        }

        module _ (w : ℕ) (ew : w ≡ width_of t) (last : ℕ) (el : last ≡ inside t e) where
          abbrev args : Founds
          args = several (expr_at (n - 1) s) (at + w) k

          pub skims-lost : AllSkimmed names facts cs p e last args None → Skimmed names facts cs p e (expr_at n s at) None
          skims-lost all = λ x. record {
            unknown = kept-lost U n s at e false x.unknown x.next o et t there deep k ek w ew last el false x.unknown x.next (all x).unknown refl refl;
            miscounted = kept-lost M n s at e false x.miscounted x.next o et t there deep k ek w ew last el false x.miscounted x.next (all x).miscounted refl refl;
          }

          pub skims-token : (a x : Looked) → SkimsAll names facts cs p e last args true a → k ≤ max_arity → (l : Option Look) → l ≡ look_in names facts cs t
              → Over t l p e a x → Skims names facts cs p e (expr_at n s at) true x
          skims-token a x all few l hl v = record {
            unknown = kept-token U n s at e true x.unknown x.next o et t there deep k ek w ew last el true a.unknown a.next all.unknown few refl refl
                v.next (v.unknown ∙ ap (λ (y : Option Look). unknown_at p e t y || a.unknown) hl);
            miscounted = kept-token M n s at e true x.miscounted x.next o et t there deep k ek w ew last el true a.miscounted a.next all.miscounted few refl refl
                v.next (v.miscounted ∙ ap (λ (y : Option Look). miscounted_at t y || a.miscounted) hl);
          }

  -- an argument list
  module _ (outer last n : ℕ) (s : List ℕ) (at k : ℕ) where
    pub all_none : (x : Looked) → k ≡ 0 → (x.next ≡ at) × (x.unknown ≡ false) × (x.miscounted ≡ false)
        → SkimsAll names facts cs p outer last (several (expr_at n s) at k) true x
    all_none x z (hn, hu, hm) = record {
      unknown = rw (z, hu, hn) (kepts-none U outer last (expr_at n s) at);
      miscounted = rw (z, hm, hn) (kepts-none M outer last (expr_at n s) at);
    }

    module _ (some : k ≡ 0 → ⊥) (e : ℕ) where
      abbrev rest : ℕ → Founds
      rest q = several (expr_at n s) q (k - 1)

      pub all-lost : Skimmed names facts cs p e (expr_at n s at) None → AllSkimmed names facts cs p outer last (several (expr_at n s) at k) None
      all-lost first = λ x.
          rw (several-more (expr_at n s) at k some)
          record {
            unknown = kepts-lost U outer last (expr_at n s at) rest e x.unknown x.next x.unknown x.next (first x).unknown;
            miscounted = kepts-lost M outer last (expr_at n s at) rest e x.miscounted x.next x.miscounted x.next (first x).miscounted;
          }

      module _ (ee : e ≡ under_of k outer last) (a : Looked) (first : Skims names facts cs p e (expr_at n s at) true a) where
        scoped : (q : ℕ) → Scoped outer last e (rest q)
        scoped q = rw ee (scoped_at outer last (expr_at n s) k q some)

        pub all-later : AllSkimmed names facts cs p outer last (rest a.next) None → AllSkimmed names facts cs p outer last (several (expr_at n s) at k) None
        all-later others = λ x.
            rw (several-more (expr_at n s) at k some)
            record {
              unknown = kepts-later U outer last (expr_at n s at) rest e a.unknown a.next x.unknown x.unknown x.next x.next first.unknown scoped (others x).unknown;
              miscounted = kepts-later M outer last (expr_at n s at) rest e a.miscounted a.next x.miscounted x.miscounted x.next x.next first.miscounted scoped
                  (others x).miscounted;
            }

        pub all_more : (g x : Looked) → SkimsAll names facts cs p outer last (rest a.next) true g → Joins a g x
            → SkimsAll names facts cs p outer last (several (expr_at n s) at k) true x
        all_more g x h j =
            rw (several-more (expr_at n s) at k some, j.next)
            record {
              unknown = kepts-more U outer last (expr_at n s at) rest e a.unknown a.next true x.unknown g.unknown g.next first.unknown scoped h.unknown j.unknown;
              miscounted = kepts-more M outer last (expr_at n s at) rest e a.miscounted a.next true x.miscounted g.miscounted g.next first.miscounted scoped
                  h.miscounted j.miscounted;
            }
