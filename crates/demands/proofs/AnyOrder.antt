-- Whoever replaces defined names in another order gets the same: every reading gives one meaning before and after each replacement.
use mathlib.Core.List.{List, [], ◌++◌, ◌∷◌}
use mathlib.Core.Option.{some}
use mathlib.Core.Path.{◌∙◌, ◌≡◌, ap, refl, subst, sym}
use lib.ListN.{length, replicate}
use Prim.Native.Nat.{◌+◌, ◌<◌, suc, ℕ}
use Rattle.demands.specs.LongWay.{InFull}
use Rattle.laws.specs.Cards.{name_at_params}
use Rattle.demands.proofs.InFull.{in-full}
use Rattle.demands.specs.AnyOrder.{AnyOrder, Replaces, ReplacesOne, and_then, at_name, in-first, in_others, inside, no_more}
use Rattle.laws.proofs.Checks.{by-fields}
use Rattle.laws.proofs.Invariant.{Good as GoodState, good-file}
use Rattle.laws.proofs.Quoting.{quote-written}
use Rattle.laws.proofs.Replacing.{expansion-of-name}
use Rattle.laws.proofs.Sound.{all-formed}
use Rattle.rules.specs.Expression.{expression}
use Rattle.rules.specs.Query.{quote}
use Rattle.rules.specs.Run.{checked, result}
use Rattle.rules.specs.State.{State, expansion_of, meanings, templates_of}
use Rattle.theory.proofs.Bytes.{Bytes, bytes, param_bytes, written}
use Rattle.theory.proofs.ExpandFirst.{Keeps, evals-good, length-evals, no-defined}
use Rattle.theory.proofs.Formed.{AllExpanded, put_in-formed}
use Rattle.theory.proofs.Fusion.{Anything, anywhere}
use Rattle.theory.proofs.Levels.{levels-kept}
use Rattle.theory.specs.Level.{IsLevel, binds_in, plain}
use Rattle.theory.proofs.Lists.{append-all, replicate-all}
use Rattle.theory.proofs.Substitution.{substitution}
use Rattle.theory.proofs.Summary.{AllFormed, AllSummarise, by-summaries, keeps-with, summarise-all, summary-exact, summary-good, templates-closed}
use Rattle.theory.specs.Expand.{arities_of, body_in, put_in, summaries_from, summary_in}
use Rattle.theory.specs.Lists.{All}
use Rattle.theory.specs.Term.{Everys, Fits, Head, Reading, Term, Terms, WellFormed, binder, bound, builtin, declared, defined, eval, evals, leaf, level, long_way, meaning, no_definitions, param, with_defined}
use Rattle.theory.proofs.Values.{values}
use Rattle.theory.specs.Tree.{count}

count_kept : (s : State) (ts us : Terms) → ReplacesOne s ts us → count ts ≡ count us
count_kept s _ _ (in-first t u ts r) = refl
count_kept s _ _ (in_others t ts us r) = ap suc (count_kept s ts us r)

module _ (file memory : List ℕ) (s : State) (accepted : checked file memory ≡ result s) where
  good-state : GoodState s
  good-state = good-file file s (by-fields file memory s accepted)

  lawful : AllFormed [] (meanings s)
  lawful = all-formed [] s.definitions good-state.sound

  template : (g : ℕ) → g < length s.definitions → (u : Term) → InFull s (name_at_params s g) u → u ≡ body_in (templates_of s) g
  template g l u i = in-full file memory s accepted (name_at_params s g) u i ∙ expansion-of-name s good-state g l

  module _ {A : Type 0} (M : Reading A) (Good : A → Type 0) (keeps : Keeps M Good) where
    abbrev summaries : List (List A → A)
    summaries = summaries_from M [] [] (meanings s)

    abbrev N : Reading A
    N = with_defined M (summary_in M summaries)

    summarised : AllSummarise M Good keeps (templates_of s) summaries
    summarised = summarise-all M Good keeps [] [] (meanings s) tt lawful

    kept : Keeps N Good
    kept = keeps-with M Good keeps (summary_in M summaries) (summary-good M Good keeps (templates_of s) summaries summarised)

    closed : AllExpanded (arities_of (templates_of s)) (body_in (templates_of s))
    closed = templates-closed M Good keeps (templates_of s) summaries summarised

    -- what is replaced keeps its indices known and its argument counts right
    mutual
      formed-kept : (n k : ℕ) (t u : Term) → Replaces s t u → WellFormed (arities_of (templates_of s)) n k t → WellFormed (arities_of (templates_of s)) n k u
      formed-kept n k _ _ (at_name g u v ts l i e) w =
          subst (WellFormed (arities_of (templates_of s)) n k) (sym (e ∙ ap (put_in ts) (template g l u i)))
          (put_in-formed (arities_of (templates_of s)) n k ts (body_in (templates_of s) g) w.1 (closed g (count ts) w.0))
      formed-kept n k _ _ (inside h ts us r) w =
          (subst (Fits (arities_of (templates_of s)) n k h) (count_kept s ts us r) w.0, all-formed-kept n k (binds_in (binder h)) ts us r w.1)

      all-formed-kept : (n k : ℕ) (b : ℕ → ℕ) (ts us : Terms) → ReplacesOne s ts us → Everys (Fits (arities_of (templates_of s)) n) k b ts
          → Everys (Fits (arities_of (templates_of s)) n) k b us
      all-formed-kept n k b _ _ (in-first t u ts r) w = (formed-kept n (b 0 + k) t u r w.0, w.1)
      all-formed-kept n k b _ _ (in_others t ts us r) w = (w.0, all-formed-kept n k (λ i. b (suc i)) ts us r w.1)

    module _ (n : ℕ) (ρ : List A) (gρ : All Good ρ) where
      same-meaning : (β : List A) (h : Head) (args args' : A → List A) → ((v : A) → Good v → args v ≡ args' v) → meaning N ρ β h args ≡ meaning N ρ β h args'
      same-meaning β (param i) args args' e = refl
      same-meaning β (bound j) args args' e = refl
      same-meaning β (declared k x) args args' e = ap (N.on_declared k x) (e M.unknown keeps.looks.unknown)
      same-meaning β (defined g) args args' e = ap (N.on_defined g) (e M.unknown keeps.looks.unknown)
      same-meaning β (builtin c) args args' e = keeps.looks.on_builtin c args args' e
      same-meaning β (leaf l) args args' e = refl

      -- and its meaning
      mutual
        means-kept : (k : ℕ) (β : List A) (t u : Term) → Replaces s t u → All Good β → WellFormed (arities_of (templates_of s)) n k t → eval N ρ β t ≡ eval N ρ β u
        means-kept k β _ _ (at_name g u v ts l i e) gβ w =
            let vs = values N ρ β ts in
            let T = body_in (templates_of s) g in
            let ar : arities_of (templates_of s) g ≡ some (length vs) = rw length-evals w.0 in
            summary-exact M Good keeps (templates_of s) summaries summarised g vs ar
            (evals-good N Good kept ρ gρ ts β M.unknown (binds_in plain) gβ keeps.looks.unknown)
            ∙ sym (no-defined M (summary_in M summaries) (length vs) 0 vs [] T (closed g (length vs) ar))
            ∙ sym (substitution N ρ no_definitions ts β T (closed g (count ts) w.0)) ∙ ap (eval N ρ β) (sym (e ∙ ap (put_in ts) (template g l u i)))
        means-kept k β _ _ (inside h ts us r) gβ w = same-meaning β h _ _ λ v gv. all-means-kept k β v (binds_in (binder h)) ts us r gβ gv w.1

        all-means-kept : (k : ℕ) (β : List A) (v : A) (b : ℕ → ℕ) (ts us : Terms) → ReplacesOne s ts us → All Good β → Good v
            → Everys (Fits (arities_of (templates_of s)) n) k b ts → evals N ρ β v b ts ≡ evals N ρ β v b us
        all-means-kept k β v b _ _ (in-first t u ts r) gβ gv w =
            ap (λ (x : A). x ∷ evals N ρ β v (λ i. b (suc i)) ts)
            (means-kept (b 0 + k) (replicate (b 0) v ++ β) t u r (append-all Good (replicate (b 0) v) β (replicate-all Good (b 0) v gv) gβ) w.0)
        all-means-kept k β v b _ _ (in_others t ts us r) gβ gv w =
            ap (λ (l : List A). eval N ρ (replicate (b 0) v ++ β) t ∷ l) (all-means-kept k β v (λ i. b (suc i)) ts us r gβ gv w.1)

      steps-kept : (t u : Term) → AnyOrder s t u → WellFormed (arities_of (templates_of s)) n 0 t → eval N ρ [] t ≡ eval N ρ [] u
      steps-kept _ _ (no_more t) w = refl
      steps-kept _ _ (and_then t u v r a) w = means-kept 0 [] t u r tt w ∙ steps-kept u v a (formed-kept n 0 t u r w)

      -- In whatever order the names were replaced, where none is left the meaning is the expansion's.
      pub any_order : (t u : Term) → AnyOrder s t u → WellFormed (arities_of (templates_of s)) n 0 t → WellFormed no_definitions n 0 u → eval M ρ [] u ≡ eval M ρ [] (expansion_of s t)
      any_order t u a w c =
          sym (no-defined M (summary_in M summaries) n 0 ρ [] u c) ∙ sym (steps-kept t u a w)
          ∙ by-summaries M Good keeps (templates_of s) summaries summarised n ρ t gρ w

bytes-kept : Keeps bytes Anything
bytes-kept = record { on_declared = λ k x vs a. tt; on_defined = λ g vs a. tt; on_builtin = λ c args a. tt; on_leaf = λ n. tt; looks = anywhere bytes }

any-bytes : (vs : List Bytes) → All Anything vs
any-bytes [] = tt
any-bytes (v ∷ vs) = (tt, any-bytes vs)

-- The bytes are the expansion's,
pub any-order-bytes : (file memory : List ℕ) (s : State) → checked file memory ≡ result s → (n : ℕ) (t u : Term) → AnyOrder s t u → WellFormed (arities_of (templates_of s)) n 0 t
    → WellFormed no_definitions n 0 u → WellFormed no_definitions n 0 (expansion_of s t) → expression.write (quote u) ≡ expression.write (quote (expansion_of s t))
any-order-bytes file memory s accepted n t u a w c d =
    quote-written u n 0 c ∙ sym (written u n 0 c)
    ∙ ap (λ (v : Bytes). v 0) (any_order file memory s accepted bytes Anything bytes-kept n (param_bytes 0 n) (any-bytes (param_bytes 0 n)) t u a w c)
    ∙ written (expansion_of s t) n 0 d ∙ sym (quote-written (expansion_of s t) n 0 d)

-- and so is the level.
pub any-order-level : (file memory : List ℕ) (s : State) → checked file memory ≡ result s → (n : ℕ) (levels : List ℕ) → All IsLevel levels → (t u : Term) → AnyOrder s t u
    → WellFormed (arities_of (templates_of s)) n 0 t → WellFormed no_definitions n 0 u → level long_way levels u ≡ level long_way levels (expansion_of s t)
any-order-level file memory s accepted n levels l t u a w c = any_order file memory s accepted long_way IsLevel levels-kept n levels l t u a w c
