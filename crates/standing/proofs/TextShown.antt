-- A text that was walked, keeps the limits and has no unknown name is shown: its names are noted below the number of all definitions and
-- declarations, and so read it is what the rules resolve.
use mathlib.Core.Bool.{Bool, cond, false, not, true}
use mathlib.Core.List.{List, [], ◌∷◌}
use mathlib.Core.Option.{Option, none, some}
use mathlib.Core.Path.{◌∙◌, ◌≡◌, ap, refl, subst, sym}
use Prim.Native.Nat.{ℕ, zero, suc, ◌+◌, ◌-◌, ◌<◌, ◌≤◌}
use native.Mathlib.Omega.{arith}
use borrow.Author.Tests.{le-ltb, leb-false, leb-true, ltb-false}
use lib.Dec.{eqb, eqb→eq, leb→le, leb, ltb}
use lib.ListN.{get_or, length, length-set, set}
use lib.Seq.{get_or-append_seam, get_or-set_same}
use Rattle.limits.specs.Limits.{max_definitions, max_nesting}
use Rattle.theory.specs.Lists.{All, bind_option, map_option}
use Rattle.theory.specs.Term.{Head, declared, defined, variable}
use Rattle.theory.specs.Tree.{node, ⟨⟩, ◌▹◌}
use Rattle.theory.proofs.Lists.{find-has, or-false}
use Rattle.rules.specs.Expression.{Expression, TokenFits, expression, nesting, over_limit, somewhere, over_count}
use Rattle.rules.specs.Field.{Field}
use Rattle.rules.specs.State.{Context, Entry, Module, State, declares, defines, brought_named, entry_of_name, head_of, here, instances, name_of, no_module, operator_named, operator_of, resolve}
use Rattle.laws.proofs.Invariant.{Good}
use Rattle.laws.proofs.Origins.{Origins}
use Rattle.tokens.specs.Expr.{Expr, Exprs, Found, expr_at, found}
use Rattle.tokens.specs.Limit.{counts_kept}
use Rattle.tokens.specs.declared.Token.{Token}
use Rattle.tokens.specs.declared.Token.TheVariants.{Parameter, Bound, Name, InstanceOperator, BuiltIn, Literal}
use Rattle.tokens.proofs.Places.{never as not-true}
use Rattle.tokens.proofs.Writing.{Bytes}
use Rattle.fields.specs.Substitution.{part}
use Rattle.agree.specs.Trees.{AllTokens, AllTokensOf, as_token, as_tree}
use Rattle.agree.proofs.Expressions.{expression-in-file}
use Rattle.agree.proofs.Limits.{counts-kept}
use Rattle.agree.proofs.Tokens.{good-at}
use Rattle.agree.proofs.Walks.{tokens-found}
use Rattle.texts.specs.Noted.{is_name, note, noted, noteds}
use Rattle.texts.specs.Text.{Declarations, no_declaration, ref_head}
use Rattle.texts.proofs.Noting.{AgreeFrom, noted-length, noteds-before}
use Rattle.texts.proofs.Spans.{Span, SpanOf, Spans, span-found, span-rise, spans-rise}
use Rattle.context.specs.Holds.{Holds, module_no}
use Rattle.context.specs.Entries.{codes_of}
use Rattle.store.specs.declared.Store.{Store}
use Rattle.context.specs.declared.Counts.{Counts}
use Rattle.resolve.specs.Look.{look_in}
use Rattle.resolve.specs.Meaning.{Means}
use Rattle.resolve.specs.Walk.{Looks, Notes, number_in, number_of}
use Rattle.std.specs.Prelude.{Option as Answer, Some, None}
use Rattle.resolve.specs.declared.Look.{Look}
use Rattle.resolve.proofs.Law.{Right, instance-law, name-law, walk-law}
use Rattle.resolve.proofs.Numbers.{Declares, declarations_of}
use Rattle.text_levels.proofs.OwnWorld.{AllRefsBelow, RefsBelow}
use Rattle.standing.specs.Shown.{TextShown}

-- past its end a list has the default
get_d_past : {A : Type 0} (xs : List A) (i : ℕ) (d : A) → length xs ≤ i → get_or xs i d ≡ d
get_d_past [] i d h = refl
get_d_past (x ∷ xs) zero d h = absurd (omega arith)
get_d_past (x ∷ xs) (suc i) d h = get_d_past xs i d (omega arith)

-- a number past all declarations stands for a declared name 0, which no name is
past_head : (decls : Declarations) (r : ℕ) → (ref_head decls r ≡ declared variable 0 → ⊥) → r < max_definitions + length decls
past_head decls r never-so = go (leb (max_definitions + length decls) r) refl
  where
    go : (b : Bool) → leb (max_definitions + length decls) r ≡ b → r < max_definitions + length decls
    go true p =
        let h : max_definitions + length decls ≤ r = leb-true (max_definitions + length decls) r p in
        let g = get_d_past decls (r - max_definitions) no_declaration (omega arith) in
        absurd (never-so (rw (le-ltb r max_definitions (omega arith), g) refl))
    go false p = leb-false (max_definitions + length decls) r p

-- what a name finds has that name
found_name : (Γ : Context) (n x : ℕ) → operator_named Γ n ≡ some (declared variable x) → n ≡ x
found_name Γ n x e = go (entry_of_name n Γ) refl e
  where
    unit-all : (Δ : Context) → All (λ (y : Entry). Unit {0}) Δ
    unit-all [] = tt
    unit-all (y ∷ Δ) = (tt, unit-all Δ)

    at_name : (y : Entry) → entry_of_name n Γ ≡ some y → n ≡ name_of y
    at_name y p = eqb→eq n (name_of y) (find-has (λ (y : Entry). Unit {0}) (λ (y : Entry). eqb n (name_of y)) Γ y (unit-all Γ) p).1

    go : (o : Option Entry) → entry_of_name n Γ ≡ o → bind_option o operator_of ≡ some (declared variable x) → n ≡ x
    go none p q = absurd (let z : ◌≡◌ {A = ℕ} 0 1 = cc in omega arith)
    go (some (declares y k f)) p q = let z : y ≡ x = cc in at_name (declares y k f) p ∙ z
    go (some (defines y g)) p q = absurd (let z : ◌≡◌ {A = ℕ} 0 1 = cc in omega arith)
    go (some (instances y f gs)) p q = absurd (let z : ◌≡◌ {A = ℕ} 0 1 = cc in omega arith)

not-brought : {A : Type 0} (o : Option ℕ) (x : ℕ) → map_option defined o ≡ some (declared variable x) → A
not-brought none x e = absurd (let z : ◌≡◌ {A = ℕ} 0 1 = cc in omega arith)
not-brought (some g) x e = absurd (let z : ◌≡◌ {A = ℕ} 0 1 = cc in omega arith)

-- the number of an answer that is right is that of a definition or a declaration
low-look : (s : State) (decls : Declarations) (l : Answer Look) (h : Option Head) → Means s decls l h → (h ≡ some (declared variable 0) → ⊥)
    → number_of l < max_definitions + length decls
low-look s decls (Some l) h (e, q) never-so = past_head decls l.number (λ z. never-so (e ∙ ap some z))
low-look s decls None h e never-so = omega arith

-- Names noted below a bound are found below it.
below-token : (look : Token → ℕ) (m : ℕ) (refs refs' : List ℕ) (at : ℕ) (t : Token) → at < length refs → (is_name t ≡ true → look t < m)
    → get_or refs' at 0 ≡ get_or (note look at t refs) at 0 → is_name t ≡ true → get_or refs' at 0 < m
below-token look m refs refs' at t l h e n =
    let q : get_or (note look at t refs) at 0 ≡ look t = rw n (get_or-set_same refs at (look t) 0 l) in
    omega (arith, h n)

note-length : (look : Token → ℕ) (at : ℕ) (t : Token) (refs : List ℕ) → length (note look at t refs) ≡ length refs
note-length look at t refs = go (is_name t)
  where
    go : (b : Bool) → length (cond b (set refs at (look t)) refs) ≡ length refs
    go true = length-set refs at (look t)
    go false = refl

mutual
  pub below-same : (t : Expr) (m : ℕ) (refs refs' : List ℕ) (lo hi : ℕ) → Span lo hi t → AgreeFrom lo hi refs refs' → RefsBelow m refs t → RefsBelow m refs' t
  below-same (node h ts) m refs refs' lo hi (a, b, c) e (x, y) =
      (λ n. subst (λ (r : ℕ). r < m) (e h.at a b) (x n), belows-same ts m refs refs' (suc h.at) hi c (λ i l k. e i (omega arith) k) y)

  belows-same : (ts : Exprs) (m : ℕ) (refs refs' : List ℕ) (lo hi : ℕ) → Spans lo hi ts → AgreeFrom lo hi refs refs' → AllRefsBelow m refs ts → AllRefsBelow m refs' ts
  belows-same ⟨⟩ m refs refs' lo hi s e x = tt
  belows-same (t ▹ ts) m refs refs' lo hi (mid, a, b) e (x, y) = (
    below-same t m refs refs' lo mid a (λ i l k. e i l (omega (arith, spans-rise ts mid hi b))) x,
    belows-same ts m refs refs' mid hi b (λ i l k. e i (omega (arith, span-rise t lo mid a)) k) y,
  )

abbrev Low : (Token → ℕ) → ℕ → ℕ → Token → Type 0
Low look m at t = is_name t ≡ true → look t < m

mutual
  unfolding noted

  noted-below : (t : Expr) (look : Token → ℕ) (m : ℕ) (refs : List ℕ) (lo hi : ℕ) → Span lo hi t → hi ≤ length refs → AllTokens (Low look m) t
      → RefsBelow m (noted look t refs) t
  noted-below (node h ts) look m refs lo hi (a, b, c) l (x, y) = (
    below-token look m refs (noteds look ts (note look h.at h.token refs)) h.at h.token (omega arith) x
        (noteds-before ts look (note look h.at h.token refs) (suc h.at) hi h.at c (omega arith)),
    noteds-below ts look m (note look h.at h.token refs) (suc h.at) hi c (rw (note-length look h.at h.token refs) l) y,
  )

  noteds-below : (ts : Exprs) (look : Token → ℕ) (m : ℕ) (refs : List ℕ) (lo hi : ℕ) → Spans lo hi ts → hi ≤ length refs → AllTokensOf (Low look m) ts
      → AllRefsBelow m (noteds look ts refs) ts
  noteds-below ⟨⟩ look m refs lo hi s l x = tt
  noteds-below (t ▹ ts) look m refs lo hi (mid, a, b) l (x, y) = (
    below-same t m (noted look t refs) (noteds look ts (noted look t refs)) lo mid a
        (λ i p q. sym (noteds-before ts look (noted look t refs) mid hi i b q))
        (noted-below t look m refs lo mid a (omega (arith, spans-rise ts mid hi b)) x),
    noteds-below ts look m (noted look t refs) mid hi b (rw (noted-length t look refs) l) y,
  )

-- The store shows the state s that the fields fs reach; the text is the expression e of l bytes at a position, judged in the module that is open.
module _ (v : Store) (c : Counts) (s : State) (holds : Holds v c s) (fs : List Field) (declares : Declares v.facts c fs) (origins : Origins fs s) (good : Good s)
    (file : List ℕ) (bytes : Bytes file) (at l : ℕ) (e : Expression) (room : at + l ≤ length file) (q : expression.read (part file at l) ≡ some e)
    (kept : over_limit e ≡ false) (n : ℕ) (refs refs' : List ℕ) (wide : at + l ≤ length refs) (u w : Bool) (x : ℕ)
    (looks : Looks v.names v.facts (codes_of v c.modules) n 0 (expr_at max_nesting file at) refs refs' u w x) where
  abbrev decls : Declarations
  decls = declarations_of fs

  abbrev look : Token → ℕ
  look = number_in v.names v.facts (codes_of v c.modules)

  open-module : module_no s c.modules ≡ s.current
  open-module = ap (λ (m : ℕ). module_no s m) holds.modules ∙ get_or-append_seam s.ended s.current [] no_module

  open_context : (module_no s c.modules).context ≡ here s
  open_context = ap (λ (M : Module). M.context) open-module

  parts : (ltb max_nesting (nesting e) ≡ false) × (somewhere (λ k t m. over_count t) 0 e ≡ false)
  parts = or-false (ltb max_nesting (nesting e)) (somewhere (λ k t m. over_count t) 0 e) kept

  deep : nesting e ≤ max_nesting
  deep = ltb-false max_nesting (nesting e) parts.0

  -- the walk's answers and notes are the rules'
  pub text-right : Right s (here s) decls n file max_nesting at l e refs refs' u w x
  text-right =
      subst (λ (Γ : Context). Right s Γ decls n file max_nesting at l e refs refs' u w x) open_context
      (walk-law v c s holds fs declares origins good c.modules (omega arith) file bytes at l e room q max_nesting deep n refs refs' wide u w x looks)

  tree : (t : Expr) × (expr_at max_nesting file at ≡ found t (at + l)) × (as_tree t ≡ e)
  tree = expression-in-file file at l e room q max_nesting deep

  low-token : (i : ℕ) (t : Token) → TokenFits (as_token t) → Low look (max_definitions + length decls) i t
  low-token i (Parameter j) f z = not-true z
  low-token i (Bound j) f z = not-true z
  low-token i (Name y k) f z =
      low-look s decls (look_in v.names v.facts (codes_of v c.modules) (Name y k)) (operator_named (module_no s c.modules).context y)
      (name-law v c s holds fs declares origins good c.modules (omega arith) y k)
      (λ z. omega (arith, found_name (module_no s c.modules).context y 0 z, leb→le 1 y f.0.1))
  low-token i (InstanceOperator y g k) f z =
      low-look s decls (look_in v.names v.facts (codes_of v c.modules) (InstanceOperator y g k)) (head_of s (module_no s c.modules).context (as_token (InstanceOperator y g k)))
      (instance-law v c s holds fs declares origins good c.modules (omega arith) y g k (leb→le 1 y f.0.1))
      (λ z. not-brought (brought_named s (module_no s c.modules).context y g) 0 z)
  low-token i (BuiltIn b) f z = not-true z
  low-token i (Literal y) f z = not-true z

  low : AllTokens (Low look (max_definitions + length decls)) tree.0
  low =
      tokens-found file (Low look (max_definitions + length decls)) max_nesting at tree.0 (at + l) tree.1
      (λ i a b t h. low-token i t (good-at file i bytes t h).0)

  notes : refs' ≡ noted look tree.0 refs
  unfolding Looks Notes
  notes = subst (λ (f : Found). Notes v.names v.facts (codes_of v c.modules) f refs refs') tree.1 looks.2

  span : Span at (at + l) tree.0
  span = subst (SpanOf at) tree.1 (span-found max_nesting file at)

  text-below : RefsBelow (max_definitions + length decls) refs' tree.0
  text-below =
      subst (λ (r : List ℕ). RefsBelow (max_definitions + length decls) r tree.0) (sym notes)
      (noted-below tree.0 look (max_definitions + length decls) refs at (at + l) span wide low)

  text-kept : counts_kept tree.0 ≡ true
  text-kept = counts-kept tree.0 0 ∙ ap not (ap (somewhere (λ k t m. over_count t) 0) tree.2 ∙ parts.1)

  -- If no name is unknown, the text is shown.
  pub text-shown : u ≡ false → TextShown file refs' decls (at + l) at (resolve s (here s) e)
  text-shown known = record {
    text = tree.0;
    next = at + l;
    stands = tree.1;
    kept = text-kept;
    below = text-below;
    inside = omega arith;
    same = text-right.resolved known tree.0 (at + l) tree.1;
  }
