-- The walks over the substitutions: their answers are the rules', what is written for each name is shown, and nothing before them changes.
use mathlib.Core.Bool.{Bool, ◌||◌, cond, false, true}
use mathlib.Core.List.{List, [], ◌∷◌}
use mathlib.Core.Option.{some}
use mathlib.Core.Path.{◌∙◌, ◌≡◌, ap, ap₂, subst, sym}
use Prim.Native.Nat.{ℕ, ◌+◌, ◌≤◌, ◌<◌}
use native.Mathlib.Omega.{arith}
use lib.Dec.{eqb}
use lib.ListN.{get_or, length}
use Rattle.limits.specs.Limits.{max_definitions, max_nesting}
use Rattle.theory.specs.Lists.{any, find, map_option}
use Rattle.theory.specs.Term.{Term}
use Rattle.theory.proofs.Lists.{or-false}
use Rattle.rules.specs.Expression.{over_arity, over_limit}
use Rattle.rules.specs.Field.{Field, Substitution}
use Rattle.rules.specs.Instance.{arity_in, source, substitution_for}
use Rattle.rules.specs.Judge.{substitute_miscounted, substitute_unknown}
use Rattle.rules.specs.State.{State, here, resolve}
use Rattle.laws.proofs.Invariant.{Good}
use Rattle.laws.proofs.Origins.{Origins}
use Rattle.tokens.specs.Expr.{expr_at}
use Rattle.tokens.specs.Token.{number_at}
use Rattle.tokens.proofs.Writing.{Bytes}
use Rattle.fields.specs.Substitution.{next_substitution}
use Rattle.agree.specs.Parts.{SubstitutionsAt}
use Rattle.texts.specs.Text.{Declarations}
use Rattle.texts.proofs.Noting.{AgreeFrom, shown-same}
use Rattle.texts.proofs.Spans.{Span, SpanOf, span-found}
use Rattle.context.specs.Holds.{Holds}
use Rattle.context.specs.Entries.{codes_of}
use Rattle.store.specs.declared.Store.{Store}
use Rattle.context.specs.declared.Counts.{Counts}
use Rattle.resolve.specs.Walk.{Looks}
use Rattle.resolve.proofs.Law.{Right}
use Rattle.resolve.proofs.Numbers.{Declares, declarations_of}
use Rattle.entering.specs.Written.{written_at}
use Rattle.std.specs.Prelude.{Some}
use Rattle.standing.specs.Shown.{TextShown}
use Rattle.instance_names.specs.Causes.{site}
use Rattle.instance_names.specs.Looking.{LooksEach, LooksOne, LooksThen}
use Rattle.instance_names.specs.Names.{Agrees}
use Rattle.instance_names.specs.Sites.{arity_there, next_start, starts}
use Rattle.instance_names.specs.declared.Site.{Site}
use Rattle.instance_names.proofs.Modules.{arity-there}
use Rattle.instance_names.proofs.Starts.{Stands, eqb-turned, in-file}
use Rattle.standing.proofs.TextShown.{below-same, text-right, text-shown}

-- a text is shown by every table that agrees with its own inside of it
pub keep-shown : (file refs refs' : List ℕ) (decls : Declarations) (end end' at : ℕ) (u : Term) → TextShown file refs decls end at u → AgreeFrom at end refs refs' → end ≤ end'
    → TextShown file refs' decls end' at u
keep-shown file refs refs' decls end end' at u h same wider =
    let span : Span at h.next h.text = subst (SpanOf at) h.stands (span-found max_nesting file at) in
    let inner : AgreeFrom at h.next refs refs' = λ i a b. same i a (omega (arith, h.inside)) in
    record {
      text = h.text;
      next = h.next;
      stands = h.stands;
      kept = h.kept;
      below = below-same h.text (max_definitions + length decls) refs refs' at h.next span inner h.below;
      inside = omega (arith, h.inside);
      same = sym (shown-same h.text refs refs' decls at h.next span inner) ∙ h.same;
    }

-- where the store shows a state, at the substitutions of an INSTANCE field
module _ (v : Store) (c : Counts) (s : State) (holds : Holds v c s) (fs : List Field) (declares : Declares v.facts c fs) (origins : Origins fs s) (good : Good s)
    (p m k at₀ : ℕ) (file : List ℕ) (bytes : Bytes file) (end : ℕ) (whole : end ≤ length file) where
  abbrev x : Site
  x = site v.heads c.modules p m k at₀

  abbrev decls : Declarations
  decls = declarations_of fs

  abbrev over : Substitution → Bool
  over y = over_arity (p + arity_in (source s m) y.0) || over_limit y.1

  pub record Noted (ss : List Substitution) (at : ℕ) (refs refs' : List ℕ) (u w : Bool) : Type 0 where
    pub cause-9 : u ≡ any (substitute_unknown s p (source s m)) ss
    pub cause-10 : w ≡ any (substitute_miscounted s) ss
    pub before : (i : ℕ) → i < at → get_or refs' i 0 ≡ get_or refs i 0
    pub size : length refs' ≡ length refs
    pub written : u ≡ false → (n : ℕ) → Agrees file refs' decls end s (written_at (length ss) file at n) (substitution_for ss n)

  abbrev Each : List ℕ → List ℕ → List ℕ → Bool → Bool → Type 0
  Each ats refs refs' u w = LooksEach file v.names v.facts v.contexts v.heads x ats refs refs' u w

  -- one substitution
  module _ (y : Substitution) (at : ℕ) (stands : Stands file end at y) (kept : over y ≡ false) (refs refs₁ : List ℕ) (wide : length file ≤ length refs) (u w : Bool) (z : ℕ)
      (one : LooksOne file v.names v.facts v.contexts v.heads x at refs refs₁ u w z) where
    params : p + arity_there v.names v.facts v.contexts v.heads x (number_at file at) ≡ p + arity_in (source s m) y.0
    params = ap (λ (a : ℕ). p + a) (arity-there v c s holds p m k at₀ (number_at file at) ∙ ap (arity_in (source s m)) stands.name)

    walked : Looks v.names v.facts (codes_of v c.modules) (p + arity_in (source s m) y.0) 0 (expr_at max_nesting file (at + 4)) refs refs₁ u w z
    unfolding LooksOne
    walked = subst (λ (n : ℕ). Looks v.names v.facts (codes_of v c.modules) n 0 (expr_at max_nesting file (at + 4)) refs refs₁ u w z) params one

    limits : over_limit y.1 ≡ false
    limits = (or-false (over_arity (p + arity_in (source s m) y.0)) (over_limit y.1) kept).1

    one_right : Right s (here s) decls (p + arity_in (source s m) y.0) file max_nesting (at + 4) (number_at file (at + 2)) y.1 refs refs₁ u w z
    one_right =
        text-right v c s holds fs declares origins good file bytes (at + 4) (number_at file (at + 2)) y.1 (omega (arith, stands.room)) stands.read limits
        (p + arity_in (source s m) y.0) refs refs₁ (omega (arith, stands.room)) u w z walked

    one-shown : u ≡ false → TextShown file refs₁ decls (next_substitution file at) (at + 4) (resolve s (here s) y.1)
    one-shown known =
        text-shown v c s holds fs declares origins good file bytes (at + 4) (number_at file (at + 2)) y.1 (omega (arith, stands.room)) stands.read limits
        (p + arity_in (source s m) y.0) refs refs₁ (omega (arith, stands.room)) u w z walked known

  -- the first for a name counts
  agrees-cons : (y : Substitution) (ss : List Substitution) (at : ℕ) (refs : List ℕ) → Stands file end at y
      → TextShown file refs decls end (at + 4) (resolve s (here s) y.1)
      → (n : ℕ) → Agrees file refs decls end s (written_at (length ss) file (next_substitution file at) n) (substitution_for ss n)
      → Agrees file refs decls end s (written_at (length (y ∷ ss)) file at n) (substitution_for (y ∷ ss) n)
  unfolding written_at
  agrees-cons y ss at refs stands text n rest =
      rw (in-file file end whole at y stands) (go (eqb n y.0) (eqb-turned n (number_at file at) (eqb n y.0) (ap (eqb n) stands.name)))
    where
      go : (b : Bool) → eqb (number_at file at) n ≡ b
          → Agrees file refs decls end s (cond (eqb (number_at file at) n) (Some (at + 4)) (written_at (length ss) file (next_substitution file at) n))
          (map_option (λ s. s.1) (cond b (some y) (find (λ (s : Substitution). eqb n s.0) ss)))
      go true e = rw e text
      go false e = rw e rest

  pub noted-each : (ss : List Substitution) (at : ℕ) → SubstitutionsAt file at end ss → any over ss ≡ false → (refs refs' : List ℕ) → length file ≤ length refs → (u w : Bool)
      → Each (starts (length ss) file at) refs refs' u w → Noted ss at refs refs' u w
  unfolding LooksEach starts written_at next_start
  noted-each [] at h kept refs refs' wide u w (same, q, r) = record {
    cause-9 = q;
    cause-10 = r;
    before = λ i l. ap (λ (t : List ℕ). get_or t i 0) same;
    size = ap length same;
    written = λ known n. tt;
  }
  noted-each (y ∷ ss) at (e, q, r, h) kept refs refs' wide u w each =
      let stands : Stands file end at y = record { name = e; read = q; room = r } in
      let parts = or-false (over y) (any over ss) kept in
      cons stands parts.0 (rw (in-file file end whole at y stands) at each) (λ refs₁ a u₂ w₂ g. noted-each ss (next_substitution file at) h parts.1 refs₁ refs' a u₂ w₂ g)
    where
      cons : Stands file end at y → over y ≡ false
          → LooksThen (λ between u₁ w₁ z. LooksOne file v.names v.facts v.contexts v.heads x at refs between u₁ w₁ z)
          (λ between u₂ w₂. Each (starts (length ss) file (next_substitution file at)) between refs' u₂ w₂) u w
          → ((refs₁ : List ℕ) → length file ≤ length refs₁ → (u₂ w₂ : Bool) → Each (starts (length ss) file (next_substitution file at)) refs₁ refs' u₂ w₂
          → Noted ss (next_substitution file at) refs₁ refs' u₂ w₂)
          → Noted (y ∷ ss) at refs refs' u w
      cons stands kept' t below =
          let first = one_right y at stands kept' refs t.between wide t.u₁ t.w₁ t.y t.one in
          let rest = below t.between (omega (arith, first.size)) t.u₂ t.w₂ t.rest in
          record {
            cause-9 = t.unknown ∙ ap₂ ◌||◌ first.cause-9 rest.cause-9;
            cause-10 = t.miscounted ∙ ap₂ ◌||◌ first.cause-10 rest.cause-10;
            before = λ i l. rest.before i (omega arith) ∙ first.before i (omega arith);
            size = rest.size ∙ first.size;
            written = λ known n.
                let both = or-false t.u₁ t.u₂ (sym t.unknown ∙ known) in
                agrees-cons y ss at refs' stands
                (keep-shown file t.between refs' decls (next_substitution file at) end (at + 4) (resolve s (here s) y.1)
                (one-shown y at stands kept' refs t.between wide t.u₁ t.w₁ t.y t.one both.0)
                (λ i a b. sym (rest.before i b)) stands.room)
                n (rest.written both.1 n);
          }
