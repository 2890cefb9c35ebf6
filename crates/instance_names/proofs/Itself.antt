-- Causes 9 and 10 of the declared names without a substitution, and 11: over the store they are the rules'.
use mathlib.Core.Bool.{Bool, ◌&&◌, ◌||◌, cond, false, not, true}
use mathlib.Core.List.{List}
use mathlib.Core.Option.{Option, some}
use mathlib.Core.Path.{◌∙◌, ◌≡◌, ap, ap₂, refl, subst, sym}
use Prim.Native.Nat.{ℕ, ◌-◌, ◌≤◌}
use native.Mathlib.Omega.{arith}
use lib.Dec.{eqb, ltb}
use lib.ListN.{get_or, length}
use Rattle.limits.specs.Limits.{max_definitions}
use Rattle.theory.specs.Lists.{any, is_some}
use Rattle.theory.specs.Term.{Head, constant, declared, defined, kind_arity, variable}
use Rattle.rules.specs.Field.{Field, Substitution}
use Rattle.rules.specs.Instance.{declared_in, kind_in, source, stands_for_itself}
use Rattle.rules.specs.Judge.{itself_miscounted, itself_unknown, miscounted_head, wrong_substitution}
use Rattle.rules.specs.State.{Module, State, here, operator_named}
use Rattle.laws.proofs.Invariant.{Good}
use Rattle.laws.proofs.Origins.{Origins}
use Rattle.tokens.specs.Token.{number_at}
use Rattle.tokens.specs.declared.Token.TheVariants.{Name}
use Rattle.agree.specs.Parts.{SubstitutionsAt}
use Rattle.texts.specs.Text.{Declarations, no_declaration, ref_head}
use Rattle.context.specs.Holds.{Holds}
use Rattle.context.specs.Lookup.{is_declared}
use Rattle.context.specs.Entries.{codes_of, variable_kind}
use Rattle.store.specs.Store.{kind_at}
use Rattle.store.specs.declared.Store.{Store}
use Rattle.context.specs.declared.Counts.{Counts}
use Rattle.context.proofs.Judging.{any-declared-law, any-each, kind_of}
use Rattle.context.proofs.Lookups.{current-no}
use Rattle.resolve.specs.Look.{look_in}
use Rattle.resolve.specs.Meaning.{Means, head_arity}
use Rattle.resolve.specs.Walk.{wrong_count}
use Rattle.std.specs.Prelude.{Option as Answer, Some, None, is_none}
use Rattle.resolve.specs.declared.Look.{Look}
use Rattle.resolve.proofs.Law.{name-law}
use Rattle.resolve.proofs.Numbers.{Declares, declarations_of}
use Rattle.entering.specs.Written.{written_at}
use Rattle.instance_names.specs.Causes.{site}
use Rattle.instance_names.specs.Sites.{miscounted_among, unknown_among, implied_miscounted, implied_unknown, is_ended, is_written, kind_count, repeated_from, stands, undeclared_at, undeclared_in}
use Rattle.instance_names.specs.declared.Site.{Site}
use Rattle.instance_names.proofs.Modules.{below, kind-there, module-there}
use Rattle.instance_names.proofs.Starts.{Stands, any-starts, repeated-law, written-some}

kind-count : (k : ℕ) → kind_count k ≡ kind_arity (kind_of k)
unfolding kind_count
kind-count k = go (eqb k variable_kind)
  where
    go : (b : Bool) → cond b 0 k ≡ kind_arity (cond b variable (constant k))
    go true = refl
    go false = refl

and_assoc : (a b c : Bool) → (a && b) && c ≡ a && (b && c)
and_assoc true b c = refl
and_assoc false b c = refl

-- one name, by its answer
module _ (s : State) (decls : Declarations) where
  counted-ref : (a r : ℕ) → not (eqb a (head_arity s (ref_head decls r))) ≡ miscounted_head s (some (ref_head decls r)) a
  counted-ref a r = go (ltb r max_definitions)
    where
      head : Bool → Head
      head b = cond b (defined r) (declared (get_or decls (r - max_definitions) no_declaration).0 (get_or decls (r - max_definitions) no_declaration).1)

      go : (b : Bool) → not (eqb a (head_arity s (head b))) ≡ miscounted_head s (some (head b)) a
      go true = refl
      go false = refl

  none-known : (l : Answer Look) (h : Option Head) → Means s decls l h → is_none l ≡ not (is_some h)
  none-known (Some l) h (e, q) = sym (ap (λ (x : Option Head). not (is_some x)) e)
  none-known None h e = sym (ap (λ (x : Option Head). not (is_some x)) e)

  counts-differ : (a : ℕ) (l : Answer Look) (h : Option Head) → Means s decls l h → wrong_count a l ≡ miscounted_head s h a
  counts-differ a (Some l) h (e, q) = ap (λ (n : ℕ). not (eqb a n)) q ∙ counted-ref a l.number ∙ ap (λ (x : Option Head). miscounted_head s x a) (sym e)
  counts-differ a None h e = ap (λ (x : Option Head). miscounted_head s x a) (sym e)

module _ (v : Store) (c : Counts) (s : State) (holds : Holds v c s) (fs : List Field) (declares : Declares v.facts c fs) (origins : Origins fs s) (good : Good s)
    (p m k at : ℕ) (file : List ℕ) (end : ℕ) (whole : end ≤ length file) (ss : List Substitution) (count : length ss ≡ k) (there : SubstitutionsAt file at end ss) where
  abbrev x : Site
  x = site v.heads c.modules p m k at

  meaning : (n : ℕ) → Means s (declarations_of fs) (look_in v.names v.facts (codes_of v c.modules) (Name n 0)) (operator_named (here s) n)
  meaning n =
      subst (λ (M : Module). Means s (declarations_of fs) (look_in v.names v.facts (codes_of v c.modules) (Name n 0)) (operator_named M.context n)) (current-no v c s holds)
      (name-law v c s holds fs declares origins good c.modules (omega arith) n 0)

  by_itself : (n : ℕ) → not (is_written (written_at k file at n)) ≡ stands_for_itself ss n
  by_itself n = ap not (ap (λ (i : ℕ). is_written (written_at i file at n)) (sym count) ∙ written-some file end whole n ss at there)

  unknown-code : (o : ℕ)
      → implied_unknown file v.names v.facts v.contexts v.heads x o ≡ is_declared v.facts o && itself_unknown s ss (kind_of (kind_at v.facts o), get_or v.names o 0)
  unfolding implied_unknown stands
  unknown-code o =
      let n = get_or v.names o 0 in
      and_assoc (is_declared v.facts o) (not (is_written (written_at k file at n))) (is_none (look_in v.names v.facts (codes_of v c.modules) (Name n 0)))
      ∙ ap₂ (λ (a b : Bool). is_declared v.facts o && (a && b)) (by_itself n) (none-known s (declarations_of fs) (look_in v.names v.facts (codes_of v c.modules) (Name n 0)) (operator_named (here s) n) (meaning n))

  miscounted-code : (o : ℕ)
      → implied_miscounted file v.names v.facts v.contexts v.heads x o ≡ is_declared v.facts o && itself_miscounted s ss (kind_of (kind_at v.facts o), get_or v.names o 0)
  unfolding implied_miscounted stands
  miscounted-code o =
      let n = get_or v.names o 0 in
      let a = kind_at v.facts o in
      let l = look_in v.names v.facts (codes_of v c.modules) (Name n 0) in
      and_assoc (is_declared v.facts o) (not (is_written (written_at k file at n))) (wrong_count (kind_count a) l)
      ∙ ap₂ (λ (a b : Bool). is_declared v.facts o && (a && b)) (by_itself n)
      (ap (λ (i : ℕ). wrong_count i l) (kind-count a) ∙ counts-differ s (declarations_of fs) (kind_arity (kind_of a)) l (operator_named (here s) n) (meaning n))

  module _ (e : is_ended x ≡ true) where
    -- 9 and 10
    pub known-law : unknown_among file v.names v.facts v.contexts v.heads x (codes_of v x.source) ≡ any (itself_unknown s ss) (declared_in (source s m))
    unfolding unknown_among
    known-law =
        any-each _ (λ o. is_declared v.facts o && itself_unknown s ss (kind_of (kind_at v.facts o), get_or v.names o 0)) unknown-code (codes_of v x.source)
        ∙ any-declared-law v c s holds (itself_unknown s ss) x.source (below v c s holds p m k at e)
        ∙ ap (λ (M : Module). any (itself_unknown s ss) (declared_in M)) (module-there v c s holds p m k at e)

    pub counted-law : miscounted_among file v.names v.facts v.contexts v.heads x (codes_of v x.source) ≡ any (itself_miscounted s ss) (declared_in (source s m))
    unfolding miscounted_among
    counted-law =
        any-each _ (λ o. is_declared v.facts o && itself_miscounted s ss (kind_of (kind_at v.facts o), get_or v.names o 0)) miscounted-code (codes_of v x.source)
        ∙ any-declared-law v c s holds (itself_miscounted s ss) x.source (below v c s holds p m k at e)
        ∙ ap (λ (M : Module). any (itself_miscounted s ss) (declared_in M)) (module-there v c s holds p m k at e)

    -- 11
    undeclared-one : (pos : ℕ) (y : Substitution) → Stands file end pos y
        → undeclared_at file v.names v.facts v.contexts v.heads x pos ≡ not (is_some (kind_in (source s m) y.0))
    unfolding undeclared_at
    undeclared-one pos y h = ap not (kind-there v c s holds p m k at e (number_at file pos) ∙ ap (λ (n : ℕ). is_some (kind_in (source s m) n)) h.name)

    undeclared-law : undeclared_in file v.names v.facts v.contexts v.heads x (length ss) at
        ≡ any (λ (y : Substitution). not (is_some (kind_in (source s m) y.0))) ss
    unfolding undeclared_in
    undeclared-law =
        any-starts file end whole (undeclared_at file v.names v.facts v.contexts v.heads x)
        (λ (y : Substitution). not (is_some (kind_in (source s m) y.0))) undeclared-one ss at there

    pub wrong-law : (undeclared_in file v.names v.facts v.contexts v.heads x k at || repeated_from file k at) ≡ wrong_substitution (source s m) ss
    wrong-law =
        ap (λ (i : ℕ). undeclared_in file v.names v.facts v.contexts v.heads x i at || repeated_from file i at) (sym count)
        ∙ ap₂ ◌||◌ undeclared-law (repeated-law file end whole ss at there)
