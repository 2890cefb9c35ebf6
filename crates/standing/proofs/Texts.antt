-- A text that was read stays as it is: its names stay noted, and further declarations come after those that it names.
use borrow.Author.Tests.{ltb-false}
use mathlib.Core.Bool.{Bool, cond, false, true}
use mathlib.Core.List.{List, ◌++◌}
use mathlib.Core.Path.{◌∙◌, ◌≡◌, ap, ap₂, refl, subst}
use Prim.Native.Nat.{ℕ, suc, ◌+◌, ◌-◌, ◌≤◌, ◌<◌}
use native.Mathlib.Omega.{arith}
use lib.Dec.{ltb}
use lib.ListN.{get_or-append, get_or, length, length-append}
use Rattle.limits.specs.Limits.{max_definitions, max_nesting}
use Rattle.theory.specs.Term.{Kind, Term, declared, defined}
use Rattle.theory.specs.Tree.{◌▹◌, map_trees, node, ⟨⟩}
use Rattle.tokens.specs.Expr.{Expr, Exprs, Placed}
use Rattle.tokens.specs.declared.Token.{Token}
use Rattle.tokens.specs.declared.Token.TheVariants.{Parameter, Bound, Name, InstanceOperator, BuiltIn, Literal}
use Rattle.texts.specs.Noted.{is_name}
use Rattle.texts.specs.Text.{Declarations, no_declaration, ref_head, shown, token_head}
use Rattle.texts.proofs.Spans.{Span, SpanOf, Spans, span-found, spans-rise}
use Rattle.text_levels.proofs.OwnWorld.{AllRefsBelow, RefsBelow}
use Rattle.standing.specs.Shown.{TextShown}

-- the table is the same before a position
abbrev pub SameBelow : ℕ → List ℕ → List ℕ → Type 0
SameBelow end refs refs' = (i : ℕ) → i < end → get_or refs' i 0 ≡ get_or refs i 0

pub same-below : (end : ℕ) (refs : List ℕ) → SameBelow end refs refs
same-below end refs i l = refl

-- a number of the table that has a meaning keeps it
pub ref-kept : (decls more : Declarations) (r : ℕ) → r < max_definitions + length decls → ref_head (decls ++ more) r ≡ ref_head decls r
ref-kept decls more r l = go (ltb r max_definitions) refl
  where
    go : (b : Bool) → ltb r max_definitions ≡ b
        → cond b (defined r) (declared (get_or (decls ++ more) (r - max_definitions) no_declaration).0 (get_or (decls ++ more) (r - max_definitions) no_declaration).1)
        ≡ cond b (defined r) (declared (get_or decls (r - max_definitions) no_declaration).0 (get_or decls (r - max_definitions) no_declaration).1)
    go true e = refl
    go false e =
        let h : r - max_definitions < length decls = omega (arith, ltb-false r max_definitions e) in
        ap (λ (d : Kind × ℕ). declared d.0 d.1) (get_or-append decls more no_declaration (r - max_definitions) h)

module _ (refs refs' : List ℕ) (decls more : Declarations) where
  head-kept : (at : ℕ) (t : Token) → get_or refs' at 0 ≡ get_or refs at 0 → (is_name t ≡ true → get_or refs at 0 < max_definitions + length decls)
      → token_head refs' (decls ++ more) at t ≡ token_head refs decls at t
  head-kept at (Parameter i) e b = refl
  head-kept at (Bound j) e b = refl
  head-kept at (Name n k) e b = ap (ref_head (decls ++ more)) e ∙ ref-kept decls more (get_or refs at 0) (b refl)
  head-kept at (InstanceOperator i n k) e b = ap (ref_head (decls ++ more)) e ∙ ref-kept decls more (get_or refs at 0) (b refl)
  head-kept at (BuiltIn c) e b = refl
  head-kept at (Literal v) e b = refl

  mutual
    shown-kept : (t : Expr) (lo hi : ℕ) → Span lo hi t → SameBelow hi refs refs' → RefsBelow (max_definitions + length decls) refs t
        → shown refs' (decls ++ more) t ≡ shown refs decls t
    shown-kept (node h ts) lo hi (a, b, c) e r =
        ap₂ node (head-kept h.at h.token (e h.at b) r.0) (showns-kept ts (suc h.at) hi c e r.1)

    showns-kept : (ts : Exprs) (lo hi : ℕ) → Spans lo hi ts → SameBelow hi refs refs' → AllRefsBelow (max_definitions + length decls) refs ts
        → map_trees (λ (h : Placed). token_head refs' (decls ++ more) h.at h.token) ts ≡ map_trees (λ (h : Placed). token_head refs decls h.at h.token) ts
    showns-kept ⟨⟩ lo hi s e r = refl
    showns-kept (t ▹ ts) lo hi (mid, a, b) e r =
        ap₂ ◌▹◌ (shown-kept t lo mid a (λ i l. e i (omega (arith, spans-rise ts mid hi b))) r.0) (showns-kept ts mid hi b e r.1)

  mutual
    below-kept : (m n : ℕ) → m ≤ n → (t : Expr) (lo hi : ℕ) → Span lo hi t → SameBelow hi refs refs' → RefsBelow m refs t → RefsBelow n refs' t
    below-kept m n l (node h ts) lo hi (a, b, c) e r = (
      (λ (q : is_name h.token ≡ true). let w : get_or refs h.at 0 < m = r.0 q in let z : get_or refs' h.at 0 ≡ get_or refs h.at 0 = e h.at b in omega arith),
      belows-kept m n l ts (suc h.at) hi c e r.1,
    )

    belows-kept : (m n : ℕ) → m ≤ n → (ts : Exprs) (lo hi : ℕ) → Spans lo hi ts → SameBelow hi refs refs' → AllRefsBelow m refs ts → AllRefsBelow n refs' ts
    belows-kept m n l ⟨⟩ lo hi s e r = tt
    belows-kept m n l (t ▹ ts) lo hi (mid, a, b) e r =
        (below-kept m n l t lo mid a (λ i k. e i (omega (arith, spans-rise ts mid hi b))) r.0, belows-kept m n l ts mid hi b e r.1)

  -- What was shown is shown.
  pub text-kept : (file : List ℕ) (end end' at : ℕ) (u : Term) → TextShown file refs decls end at u → SameBelow end refs refs' → end ≤ end'
      → TextShown file refs' (decls ++ more) end' at u
  text-kept file end end' at u x e l =
      let span : Span at x.next x.text = subst (SpanOf at) x.stands (span-found max_nesting file at) in
      let near : SameBelow x.next refs refs' = λ i k. e i (omega (arith, x.inside)) in
      record {
        text = x.text;
        next = x.next;
        stands = x.stands;
        kept = x.kept;
        below =
            below-kept (max_definitions + length decls) (max_definitions + length (decls ++ more)) (rw (length-append decls more) (omega arith))
            x.text at x.next span near x.below;
        inside = omega (arith, x.inside);
        same = shown-kept x.text at x.next span near x.below ∙ x.same;
      }
