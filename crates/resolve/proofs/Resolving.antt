-- What a walk answers and notes is what the rules say of the expression that they read there.
use mathlib.Core.Bool.{Bool, cond, false, not, true}
use mathlib.Core.List.{List}
use mathlib.Core.Option.{Option, some}
use mathlib.Core.Path.{◌∙◌, ◌≡◌, ap, ap₂, refl, subst, sym}
use Prim.Native.Nat.{ℕ, ◌+◌, ◌-◌, ◌<◌, ◌≤◌}
use lib.Dec.{eqb, leb→le, ltb}
use lib.ListN.{get_or, length}
use Rattle.limits.specs.Limits.{max_declarations, max_definitions}
use Rattle.theory.specs.Lists.{All, or_else}
use Rattle.theory.specs.Term.{Head, declared, defined, leaf, literal}
use Rattle.theory.specs.Tree.{map_tree, map_trees, node, ⟨⟩, ◌▹◌}
use Rattle.theory.proofs.Lists.{never, or-false}
use Rattle.rules.specs.Expression.{Expression, Token as RuleToken, TokenFits, expression, nesting}
use Rattle.rules.specs.Judge.{miscounted, miscounted_head, unknown, unknown_head}
use Rattle.rules.specs.State.{Context, State, head_of, resolve}
use Rattle.laws.proofs.Invariant.{EntryKnown}
use Rattle.tokens.specs.Token.{arguments_of}
use Rattle.tokens.specs.Expr.{Expr, Exprs, Found, Placed, expr_at, found}
use Rattle.tokens.specs.Fold.{fold, folds, under, Worth}
use Rattle.tokens.specs.declared.Token.{Token}
use Rattle.tokens.specs.declared.Token.TheVariants.{Parameter, Bound, Name, InstanceOperator, BuiltIn, Literal}
use Rattle.tokens.proofs.Writing.{Bytes}
use Rattle.fields.specs.Substitution.{part}
use Rattle.agree.specs.Folds.{searching}
use Rattle.agree.specs.Trees.{AllTokens, AllTokensOf, as_token, as_tree, as_trees}
use Rattle.agree.proofs.Expressions.{expression-in-file}
use Rattle.agree.proofs.Somewhere.{somewhere-worth}
use Rattle.agree.proofs.Tokens.{good-at}
use Rattle.agree.proofs.Walks.{Between, tokens-found}
use Rattle.texts.specs.Noted.{noted}
use Rattle.texts.specs.Text.{Declarations, no_declaration, ref_head, shown}
use Rattle.texts.proofs.Noting.{look_head, noted-before, noted-behind, noted-length, noted-shown}
use Rattle.texts.proofs.Spans.{Span, SpanOf, span-found}
use Rattle.context.specs.Holds.{Holds, module_no}
use Rattle.context.specs.Entries.{codes_of}
use Rattle.store.specs.declared.Store.{Store}
use Rattle.store.specs.declared.Facts.{Facts}
use Rattle.context.specs.declared.Counts.{Counts}
use Rattle.resolve.specs.Look.{look_in}
use Rattle.resolve.specs.Meaning.{Means, Numbered, head_arity}
use Rattle.resolve.specs.Walk.{Looks, Notes, miscounted_at, miscounted_in, number_in, number_of, unknown_at, unknown_in, wrong_count}
use Rattle.std.specs.Prelude.{Option as Answer, Some, None, is_none}
use Rattle.resolve.specs.declared.Look.{Look}
use Rattle.resolve.proofs.Meaning.{instance-means, name-means}

-- one name, by its answer
module _ (s : State) (decls : Declarations) where
  known-ref : (n k r : ℕ) → false ≡ unknown_head n k (some (ref_head decls r))
  known-ref n k r = go (ltb r max_definitions)
    where
      go : (b : Bool) → false ≡ unknown_head n k (some (cond b (defined r) (declared (get_or decls (r - max_definitions) no_declaration).0 (get_or decls (r - max_definitions) no_declaration).1)))
      go true = refl
      go false = refl

  counted-ref : (a r : ℕ) → not (eqb a (head_arity s (ref_head decls r))) ≡ miscounted_head s (some (ref_head decls r)) a
  counted-ref a r = go (ltb r max_definitions)
    where
      head : Bool → Head
      head b = cond b (defined r) (declared (get_or decls (r - max_definitions) no_declaration).0 (get_or decls (r - max_definitions) no_declaration).1)

      go : (b : Bool) → not (eqb a (head_arity s (head b))) ≡ miscounted_head s (some (head b)) a
      go true = refl
      go false = refl

  unknown-name : (n k : ℕ) (l : Answer Look) (h : Option Head) → Means s decls l h → is_none l ≡ unknown_head n k h
  unknown-name n k (Some l) h (e, q) = known-ref n k l.number ∙ ap (unknown_head n k) (sym e)
  unknown-name n k None h e = ap (unknown_head n k) (sym e)

  miscounted-name : (a : ℕ) (l : Answer Look) (h : Option Head) → Means s decls l h → wrong_count a l ≡ miscounted_head s h a
  miscounted-name a (Some l) h (e, q) = ap (λ (n : ℕ). not (eqb a n)) q ∙ counted-ref a l.number ∙ ap (λ (x : Option Head). miscounted_head s x a) (sym e)
  miscounted-name a None h e = ap (λ (x : Option Head). miscounted_head s x a) (sym e)

  shown-name : (l : Answer Look) (h : Option Head) → Means s decls l h → is_none l ≡ false → ref_head decls (number_of l) ≡ or_else (leaf (literal 0)) h
  shown-name (Some l) h (e, q) u = ap (or_else (leaf (literal 0))) (sym e)
  shown-name None h e u = never u

module _ (s : State) (decls : Declarations) (Γ : Context) (names : List ℕ) (facts : List Facts) (cs : List ℕ) where
  -- what is asked of a token: its names mean what the rules find
  abbrev pub Meant : Token → Type 0
  Meant (Parameter i) = Unit {0}
  Meant (Bound j) = Unit {0}
  Meant (Name n k) = Means s decls (look_in names facts cs (Name n k)) (head_of s Γ (as_token (Name n k)))
  Meant (InstanceOperator i f k) = Means s decls (look_in names facts cs (InstanceOperator i f k)) (head_of s Γ (as_token (InstanceOperator i f k)))
  Meant (BuiltIn c) = Unit {0}
  Meant (Literal v) = Unit {0}

  unknown-token : (n k : ℕ) (t : Token) → Meant t → unknown_at n k t (look_in names facts cs t) ≡ unknown_head n k (head_of s Γ (as_token t))
  unknown-token n k (Parameter i) m = refl
  unknown-token n k (Bound j) m = refl
  unknown-token n k (Name x a) m = unknown-name s decls n k (look_in names facts cs (Name x a)) (head_of s Γ (as_token (Name x a))) m
  unknown-token n k (InstanceOperator i f a) m =
      unknown-name s decls n k (look_in names facts cs (InstanceOperator i f a)) (head_of s Γ (as_token (InstanceOperator i f a))) m
  unknown-token n k (BuiltIn c) m = refl
  unknown-token n k (Literal v) m = refl

  miscounted-token : (t : Token) → Meant t → miscounted_at t (look_in names facts cs t) ≡ miscounted_head s (head_of s Γ (as_token t)) (arguments_of t)
  miscounted-token (Parameter i) m = refl
  miscounted-token (Bound j) m = refl
  miscounted-token (Name x a) m = miscounted-name s decls a (look_in names facts cs (Name x a)) (head_of s Γ (as_token (Name x a))) m
  miscounted-token (InstanceOperator i f a) m =
      miscounted-name s decls a (look_in names facts cs (InstanceOperator i f a)) (head_of s Γ (as_token (InstanceOperator i f a))) m
  miscounted-token (BuiltIn c) m = refl
  miscounted-token (Literal v) m = refl

  shown-token : (n k : ℕ) (t : Token) → Meant t → unknown_at n k t (look_in names facts cs t) ≡ false
      → look_head (number_in names facts cs) decls t ≡ or_else (leaf (literal 0)) (head_of s Γ (as_token t))
  shown-token n k (Parameter i) m u = refl
  shown-token n k (Bound j) m u = refl
  shown-token n k (Name x a) m u = shown-name s decls (look_in names facts cs (Name x a)) (head_of s Γ (as_token (Name x a))) m u
  shown-token n k (InstanceOperator i f a) m u =
      shown-name s decls (look_in names facts cs (InstanceOperator i f a)) (head_of s Γ (as_token (InstanceOperator i f a))) m u
  shown-token n k (BuiltIn c) m u = refl
  shown-token n k (Literal v) m u = refl

  -- a tree with no unknown token shows what the rules resolve it to
  mutual
    shown-tree : (n k : ℕ) (t : Expr) → AllTokens (λ at x. Meant x) t → fold (searching (unknown_in names facts cs n)) k t ≡ false
        → map_tree (λ (h : Placed). look_head (number_in names facts cs) decls h.token) t ≡ resolve s Γ (as_tree t)
    shown-tree n k (node h ts) (m, ms) u =
        let e = or-false (unknown_at n k h.token (look_in names facts cs h.token)) _ u in
        ap₂ node (shown-token n k h.token m e.0) (shown-trees n k _ ts ms e.1)

    shown-trees : (n outer last : ℕ) (ts : Exprs) → AllTokensOf (λ at x. Meant x) ts → folds (searching (unknown_in names facts cs n)) outer last ts ≡ false
        → map_trees (λ (h : Placed). look_head (number_in names facts cs) decls h.token) ts
        ≡ map_trees (λ (t : RuleToken). or_else (leaf (literal 0)) (head_of s Γ t)) (as_trees ts)
    shown-trees n outer last ⟨⟩ m u = refl
    shown-trees n outer last (t ▹ ts) (m, ms) u =
        let e = or-false (fold (searching (unknown_in names facts cs n)) (under ts outer last) t) (folds (searching (unknown_in names facts cs n)) outer last ts) u in
        ap₂ ◌▹◌ (shown-tree n (under ts outer last) t m e.0) (shown-trees n outer last ts ms e.1)

  -- A walk at a part of the file whose names mean what the rules find.
  module _ (file : List ℕ) (bytes : Bytes file) (at l : ℕ) (e : Expression) (room : at + l ≤ length file) (q : expression.read (part file at l) ≡ some e)
      (nest : ℕ) (deep : nesting e ≤ nest) (meant : Between file (λ i t. Meant t) at (at + l)) (n : ℕ) (refs refs' : List ℕ) (u c : Bool) (x : ℕ)
      (looks : Looks names facts cs n 0 (expr_at nest file at) refs refs' u c x) where
    parts : Worth (searching (unknown_in names facts cs n)) 0 (expr_at nest file at) u x × Worth (searching (miscounted_in names facts cs)) 0 (expr_at nest file at) c x
        × Notes names facts cs (expr_at nest file at) refs refs'
    unfolding Looks
    parts = looks

    unknown-both : (u ≡ unknown s Γ n e) × (x ≡ at + l)
    unknown-both =
        somewhere-worth file bytes at l e room q nest deep (λ k t m. unknown_head n k (head_of s Γ t)) (unknown_in names facts cs n)
        (λ i a b t h k. unknown-token n k t (meant i a b t h)) 0 u x parts.0

    pub walk-unknown : u ≡ unknown s Γ n e
    walk-unknown = unknown-both.0

    pub walk-next : x ≡ at + l
    walk-next = unknown-both.1

    pub walk-miscounted : c ≡ miscounted s Γ e
    walk-miscounted =
        (somewhere-worth file bytes at l e room q nest deep (λ k t m. miscounted_head s (head_of s Γ t) m) (miscounted_in names facts cs)
        (λ i a b t h k. miscounted-token t (meant i a b t h)) 0 c x parts.1).0

    tree : (t : Expr) × (expr_at nest file at ≡ found t (at + l)) × (as_tree t ≡ e)
    tree = expression-in-file file at l e room q nest deep

    notes : refs' ≡ noted (number_in names facts cs) tree.0 refs
    unfolding Notes
    notes = subst (λ (f : Found). Notes names facts cs f refs refs') tree.1 parts.2

    span : Span at (at + l) tree.0
    span = subst (SpanOf at) tree.1 (span-found nest file at)

    first-fold : u ≡ fold (searching (unknown_in names facts cs n)) 0 tree.0
    unfolding Worth
    first-fold = (subst (λ (f : Found). Worth (searching (unknown_in names facts cs n)) 0 f u x) tree.1 parts.0).0

    -- the tree that stands there shows, with the table, what the rules resolve the expression to, if no token is unknown
    pub walk-resolved : at + l ≤ length refs → u ≡ false → (t : Expr) × (expr_at nest file at ≡ found t (at + l)) × (shown refs' decls t ≡ resolve s Γ e)
    walk-resolved wide known = (
      tree.0,
      tree.1,
      ap (λ (r : List ℕ). shown r decls tree.0) notes ∙ noted-shown tree.0 (number_in names facts cs) decls refs at (at + l) span wide
          ∙ shown-tree n 0 tree.0 (tokens-found file (λ i t. Meant t) nest at tree.0 (at + l) tree.1 meant) (sym first-fold ∙ known)
          ∙ ap (resolve s Γ) tree.2,
    )

    -- positions outside of the part keep their numbers
    pub walk_before : (i : ℕ) → i < at → get_or refs' i 0 ≡ get_or refs i 0
    walk_before i h = ap (λ (r : List ℕ). get_or r i 0) notes ∙ noted-before tree.0 (number_in names facts cs) refs at (at + l) i span h

    pub walk-behind : (i : ℕ) → at + l ≤ i → get_or refs' i 0 ≡ get_or refs i 0
    walk-behind i h = ap (λ (r : List ℕ). get_or r i 0) notes ∙ noted-behind tree.0 (number_in names facts cs) refs at (at + l) i span h

    pub walk-length : length refs' ≡ length refs
    walk-length = ap length notes ∙ noted-length tree.0 (number_in names facts cs) refs

-- The names of a file mean what the rules find, where the store shows a state.
module _ (v : Store) (c : Counts) (s : State) (holds : Holds v c s) (decls : Declarations) (few : length decls ≤ max_declarations)
    (m : ℕ) (there : m ≤ c.modules) (numbered : All (Numbered v.facts decls) (module_no s m).context)
    (known : All (EntryKnown (length s.definitions)) (module_no s m).context) (file : List ℕ) (bytes : Bytes file) where
  abbrev Mean : Token → Type 0
  Mean t = Meant s decls (module_no s m).context v.names v.facts (codes_of v m) t

  token-means : (t : Token) → TokenFits (as_token t) → Mean t
  token-means (Parameter i) f = tt
  token-means (Bound j) f = tt
  token-means (Name n k) f = name-means v c s holds decls few m there numbered known n k
  token-means (InstanceOperator i x k) f = instance-means v c s holds decls few m there numbered known i x k (leb→le 1 i f.0.1)
  token-means (BuiltIn b) f = tt
  token-means (Literal z) f = tt

  pub names-mean : (from to : ℕ) → Between file (λ i t. Mean t) from to
  names-mean from to i a b t h = token-means t (good-at file i bytes t h).0
