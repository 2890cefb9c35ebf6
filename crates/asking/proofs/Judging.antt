-- A query's expression, judged at the end of an ended module: its causes and its level are those of the rules.
use mathlib.Core.Bool.{Bool, cond, false, true}
use mathlib.Core.List.{List, [], ◌∷◌}
use mathlib.Core.Option.{Option, none, some}
use mathlib.Core.Path.{◌∙◌, ◌≡◌, ap, refl, subst, sym}
use Prim.Native.Nat.{ℕ, zero, suc, ◌+◌, ◌-◌, ◌<◌, ◌≤◌}
use native.Mathlib.Omega.{arith}
use borrow.Author.Tests.{le-ltb, leb-false, leb-true, ltb-false}
use lib.Dec.{eqb, eqb→eq, leb, leb→le, ltb}
use lib.ListN.{get_or, length}
use lib.Seq.{take_all}
use Rattle.std.specs.Prelude.{None, Some, is_none}
use Rattle.limits.specs.Limits.{max_arity, max_definitions, max_nesting}
use Rattle.theory.specs.Expand.{arities_of}
use Rattle.theory.specs.Lists.{All, bind_option, map_option}
use Rattle.theory.specs.Term.{Head, WellFormed, declared, defined, variable}
use Rattle.theory.specs.Level.{IsLevel}
use Rattle.theory.proofs.Lists.{find-has, or-false}
use Rattle.rules.specs.Expression.{Expression, TokenFits, expression, nesting, over_count, over_limit, somewhere}
use Rattle.rules.specs.Field.{Field}
use Rattle.rules.specs.State.{Context, Entry, State, brought_named, declares, defines, entry_of_name, head_of, instances, level_of, name_of, operator_named, operator_of, resolve, templates_of}
use Rattle.laws.proofs.Expressions.{expression-back}
use Rattle.laws.proofs.Invariant.{clear_in}
use Rattle.tokens.specs.Expr.{Expr, Found, expr_at, found}
use Rattle.tokens.specs.Limit.{kept_of, limit_at}
use Rattle.tokens.specs.declared.Token.{Token}
use Rattle.tokens.specs.declared.Token.TheVariants.{Parameter, Bound, Name, InstanceOperator, BuiltIn, Literal}
use Rattle.tokens.proofs.Nesting.{limited}
use Rattle.tokens.proofs.Places.{never as not-true}
use Rattle.tokens.proofs.Writing.{Bytes}
use Rattle.fields.specs.Substitution.{part}
use Rattle.agree.specs.Trees.{AllTokens, as_token, as_tree}
use Rattle.agree.proofs.Expressions.{expression-in-file}
use Rattle.agree.proofs.Limits.{limits-agree}
use Rattle.agree.proofs.Tokens.{good-at}
use Rattle.agree.proofs.Walks.{tokens-found}
use Rattle.texts.specs.Noted.{is_name}
use Rattle.texts.specs.Text.{Declarations, no_declaration, ref_head}
use Rattle.forms.specs.Forms.{level_at}
use Rattle.context.specs.Holds.{module_no}
use Rattle.context.specs.Entries.{codes_of}
use Rattle.store.specs.declared.Store.{Store}
use Rattle.context.specs.declared.Counts.{Counts}
use Rattle.resolve.specs.Look.{look_in}
use Rattle.resolve.specs.Meaning.{Means}
use Rattle.resolve.specs.Walk.{Looks, Notes, number_in, number_of}
use Rattle.std.specs.Prelude.{Option as Answer, Some, None}
use Rattle.resolve.specs.declared.Look.{Look}
use Rattle.resolve.proofs.Law.{Right, instance-law, name-law, walk-law}
use Rattle.resolve.proofs.Numbers.{declarations_of, known-context}
use Rattle.levels.specs.Tables.{scene_of}
use Rattle.levels.specs.Walk.{TextForm}
use Rattle.text_levels.proofs.OwnWorld.{RefsBelow, own-level}
use Rattle.worlds.specs.Rows.{Row}
use Rattle.judge_plain.specs.declared.Phase.{Phase}
use Rattle.standing.specs.Standing.{Standing, itselves}
use Rattle.asking.specs.Asks.{NamesAsked}
use Rattle.asking.specs.Walk.{names_in, numbers_in}
use Rattle.asking.proofs.Noting.{Low, Reads, noted-same, reads-below, table-length}
use Rattle.asking.proofs.Stepping.{number-at-token}

-- past its end a list has the default
get_d_past : {A : Type 0} (xs : List A) (i : ℕ) (d : A) → length xs ≤ i → get_or xs i d ≡ d
get_d_past [] i d h = refl
get_d_past (x ∷ xs) zero d h = absurd (omega arith)
get_d_past (x ∷ xs) (suc i) d h = get_d_past xs i d (omega arith)

-- a number past all declarations stands for a declared name 0, which no name is
past_head : (decls : Declarations) (r : ℕ) → (ref_head decls r ≡ declared variable 0 → ⊥) → r < max_definitions + length decls
past_head decls r never-so = go (leb (max_definitions + length decls) r) refl
  where
    go : (b : Bool) → leb (max_definitions + length decls) r ≡ b → r < max_definitions + length decls
    go true p =
        let h : max_definitions + length decls ≤ r = leb-true (max_definitions + length decls) r p in
        let g = get_d_past decls (r - max_definitions) no_declaration (omega arith) in
        absurd (never-so (rw (le-ltb r max_definitions (omega arith), g) refl))
    go false p = leb-false (max_definitions + length decls) r p

-- what a name finds has that name
found_name : (Γ : Context) (n x : ℕ) → operator_named Γ n ≡ some (declared variable x) → n ≡ x
found_name Γ n x e = go (entry_of_name n Γ) refl e
  where
    unit-all : (Δ : Context) → All (λ (y : Entry). Unit {0}) Δ
    unit-all [] = tt
    unit-all (y ∷ Δ) = (tt, unit-all Δ)

    at_name : (y : Entry) → entry_of_name n Γ ≡ some y → n ≡ name_of y
    at_name y p = eqb→eq n (name_of y) (find-has (λ (y : Entry). Unit {0}) (λ (y : Entry). eqb n (name_of y)) Γ y (unit-all Γ) p).1

    go : (o : Option Entry) → entry_of_name n Γ ≡ o → bind_option o operator_of ≡ some (declared variable x) → n ≡ x
    go none p q = absurd (let z : ◌≡◌ {A = ℕ} 0 1 = cc in omega arith)
    go (some (declares y k f)) p q = let z : y ≡ x = cc in at_name (declares y k f) p ∙ z
    go (some (defines y g)) p q = absurd (let z : ◌≡◌ {A = ℕ} 0 1 = cc in omega arith)
    go (some (instances y f gs)) p q = absurd (let z : ◌≡◌ {A = ℕ} 0 1 = cc in omega arith)

not-brought : {A : Type 0} (o : Option ℕ) (x : ℕ) → map_option defined o ≡ some (declared variable x) → A
not-brought none x e = absurd (let z : ◌≡◌ {A = ℕ} 0 1 = cc in omega arith)
not-brought (some g) x e = absurd (let z : ◌≡◌ {A = ℕ} 0 1 = cc in omega arith)

-- the number of an answer that is right is that of a definition or a declaration
low-look : (s : State) (decls : Declarations) (l : Answer Look) (h : Option Head) → Means s decls l h → (h ≡ some (declared variable 0) → ⊥)
    → number_of l < max_definitions + length decls
low-look s decls (Some l) h (e, q) never-so = past_head decls l.number (λ z. never-so (e ∙ ap some z))
low-look s decls None h e never-so = omega arith

-- the whole list is a part of itself
part-whole : (xs : List ℕ) → part xs 0 (length xs) ≡ xs
part-whole [] = refl
part-whole (x ∷ xs) = take_all (length (x ∷ xs)) (x ∷ xs) (omega arith)

-- 5: the limits
pub limit-law : (expr : List ℕ) (e : Expression) → expression.read expr ≡ some e → is_none (limit_at expr 0) ≡ over_limit e
limit-law expr e q =
    ap is_none
    (sym (limited expr 0 (kept_of (expr_at max_nesting expr 0)) refl)
    ∙ limits-agree expr 0 (length expr) e (omega arith) (ap expression.read (part-whole expr) ∙ q)) ∙ go (over_limit e)
  where
    go : (b : Bool) → is_none (cond b None (Some (0 + length expr))) ≡ b
    go true = refl
    go false = refl

-- Module q is ended; the bytes spell the expression e, which keeps the limits, and which was walked with n parameters.
module _ (file : List ℕ) (fs : List Field) (s : State) (rs : List Row) (v : Store) (c : Counts) (p : Phase) (refs words : List ℕ)
    (stands : Standing file fs s rs v c p refs words) (q : ℕ) (ended : q < c.modules) (expr : List ℕ) (bytes : Bytes expr) (e : Expression)
    (spelt : expression.read expr ≡ some e) (kept : over_limit e ≡ false) (n r : ℕ)
    (asked : NamesAsked v.names v.facts (codes_of v q) n (expr_at max_nesting expr 0) r) where
  abbrev decls : Declarations
  decls = declarations_of fs

  abbrev Γ : Context
  Γ = (module_no s q).context

  abbrev look : Token → ℕ
  look = number_in v.names v.facts (codes_of v q)

  in-part : expression.read (part expr 0 (length expr)) ≡ some e
  in-part = ap expression.read (part-whole expr) ∙ spelt

  limits : (ltb max_nesting (nesting e) ≡ false) × (somewhere (λ k t m. over_count t) 0 e ≡ false)
  limits = or-false (ltb max_nesting (nesting e)) (somewhere (λ k t m. over_count t) 0 e) kept

  deep : nesting e ≤ max_nesting
  deep = ltb-false max_nesting (nesting e) limits.0

  pub tree : (t : Expr) × (expr_at max_nesting expr 0 ≡ found t (0 + length expr)) × (as_tree t ≡ e)
  tree = expression-in-file expr 0 (length expr) e (omega arith) in-part max_nesting deep

  -- the table beside the bytes says what each name means
  abbrev pub table : List ℕ
  table = numbers_in v.names v.facts (codes_of v q) expr

  wide : 0 + length expr ≤ length table
  wide = omega (arith, table-length v.names v.facts (codes_of v q) expr)

  pub reads : Reads look table tree.0
  reads =
      tokens-found expr (λ i x. is_name x ≡ true → get_or table i 0 ≡ look x) max_nesting 0 tree.0 (0 + length expr) tree.1
      (λ i a b t h _. number-at-token v.names v.facts (codes_of v q) expr i t h)

  looks : Looks v.names v.facts (codes_of v q) n 0 (expr_at max_nesting expr 0) table table asked.unknown asked.miscounted asked.next
  unfolding Looks Notes
  looks =
      let a = asked.looks in (
        a.0,
        a.1,
        subst (λ (f : Found). Notes v.names v.facts (codes_of v q) f table table) (sym tree.1) (sym (noted-same tree.0 look table reads)),
      )

  -- the walk's answers are the rules'
  pub asked-right : Right s Γ decls n expr max_nesting 0 (length expr) e table table asked.unknown asked.miscounted asked.next
  asked-right =
      walk-law v c s stands.holds fs stands.declares stands.origins stands.good q (omega arith) expr bytes 0 (length expr) e (omega arith) in-part
      max_nesting deep n table table wide asked.unknown asked.miscounted asked.next looks

  low-token : (i : ℕ) (t : Token) → TokenFits (as_token t) → Low look (max_definitions + length decls) i t
  low-token i (Parameter j) f z = not-true z
  low-token i (Bound j) f z = not-true z
  low-token i (Name y k) f z =
      low-look s decls (look_in v.names v.facts (codes_of v q) (Name y k)) (operator_named Γ y)
      (name-law v c s stands.holds fs stands.declares stands.origins stands.good q (omega arith) y k)
      (λ z. omega (arith, found_name Γ y 0 z, leb→le 1 y f.0.1))
  low-token i (InstanceOperator y g k) f z =
      low-look s decls (look_in v.names v.facts (codes_of v q) (InstanceOperator y g k)) (head_of s Γ (as_token (InstanceOperator y g k)))
      (instance-law v c s stands.holds fs stands.declares stands.origins stands.good q (omega arith) y g k (leb→le 1 y f.0.1))
      (λ z. not-brought (brought_named s Γ y g) 0 z)
  low-token i (BuiltIn b) f z = not-true z
  low-token i (Literal y) f z = not-true z

  pub low : AllTokens (Low look (max_definitions + length decls)) tree.0
  low =
      tokens-found expr (Low look (max_definitions + length decls)) max_nesting 0 tree.0 (0 + length expr) tree.1
      (λ i a b t h. low-token i t (good-at expr i bytes t h).0)

  below : RefsBelow (max_definitions + length decls) table tree.0
  below = reads-below tree.0 look (max_definitions + length decls) table reads low

  module _ (known : asked.unknown ≡ false) (counted-right : asked.miscounted ≡ false) where
    pub formed : WellFormed (arities_of (templates_of s)) n 0 (resolve s Γ e)
    formed =
        clear_in s Γ n e stands.good.sound (known-context s q (omega (arith, stands.holds.modules)) stands.good) (expression-back expr e spelt).0
        (sym asked-right.cause-9 ∙ known) (sym asked-right.cause-10 ∙ counted-right)

    -- the level that the form gives is the level by the rules
    pub asked-level : (ls : List ℕ) (form : ℕ) → TextForm (names_in v.names v.facts (codes_of v q) words expr) expr 0 form → length ls ≡ n → n ≤ max_arity
        → All IsLevel ls → level_at form ls ≡ level_of s ls (resolve s Γ e)
    asked-level ls form shown size few a =
        shown.level tree.0 (0 + length expr) tree.1 ls (omega arith) a
        ∙ own-level table decls (scene_of itselves words) s stands.good stands.forms n ls (omega arith) a tree.0 (resolve s Γ e) below
        (asked-right.resolved known tree.0 (0 + length expr) tree.1) formed
