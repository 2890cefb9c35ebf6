-- From what the walk puts to the string that stands in the memory.
use mathlib.Core.Bool.{Bool, false}
use mathlib.Core.List.{List, [], ◌++◌, ◌∷◌, map}
use mathlib.Core.Path.{◌∙◌, ◌≡◌, ap, fun_ext, refl, subst, sym}
use Prim.Native.Nat.{ℕ, zero, suc, ◌+◌, ◌%◌, ◌<◌, ◌≤◌, min}
use native.Mathlib.Omega.{arith}
use borrow.Author.Tests.{leb-false, leb-true, lt-ltb}
use lib.Dec.{leb}
use lib.ListN.{get_or, length, set, length-set}
use lib.Seq.{get_or-set_other, get_or-set_same}
use Rattle.limits.specs.Limits.{max_declarations, max_definitions, max_nesting}
use Rattle.theory.specs.Expand.{params_from}
use Rattle.theory.specs.Lists.{All, numbers_from}
use Rattle.theory.specs.Term.{Terms, variable}
use Rattle.theory.specs.Tree.{◌▹◌, node, ⟨⟩}
use Rattle.tokens.specs.Expr.{Expr, Exprs, Found, expr_at, found}
use Rattle.tokens.specs.declared.Token.{Token}
use Rattle.texts.specs.Text.{Declarations, no_declaration}
use Rattle.symbols.specs.Symbol.{At, Symbol, bytes_of}
use Rattle.symbols.specs.Spell.{shape_limit, spell}
use Rattle.text_levels.proofs.OwnWorld.{AllRefsBelow, RefsBelow}
use Rattle.unfolding.specs.InWorld.{Setting, by_refs, named_in, term_in}
use Rattle.spelling.specs.Put.{Put, paste}
use Rattle.spelling.specs.Parts.{parts}
use Rattle.spelling.specs.Written.{Led, Named, Wrote, declarations_in, place_of, shape_in}
use Rattle.spelling.specs.Strings.{AllLooksBelow, Bytes, ImpliedString, LooksBelow, NamesShown, NumbersFit, Narrow, ShapesFit, Spells, TextString, shapes_of}
use Rattle.spelling.proofs.Heading.{name-shown, put-symbols}
use Rattle.spelling.proofs.Small.{count-params, small, small_bytes, small-implied, small-string, small-text}
use Rattle.spelling.proofs.Alike.{same-implied, same-string}

paste-before : (out : List ℕ) (q i : ℕ) (bs : List ℕ) → i < q → get_or (paste out q bs) i 0 ≡ get_or out i 0
unfolding paste
paste-before out q i [] h = refl
paste-before out q i (b ∷ bs) h = paste-before (set out q (b % 256)) (suc q) i bs (omega arith) ∙ get_or-set_other out q i (b % 256) 0 (λ e. omega arith)

-- bytes that there was room for stand where they were put
paste-at : (out : List ℕ) (q : ℕ) (bs : List ℕ) → q + length bs ≤ length out → All (λ b. b < 256) bs → At (paste out q bs) q bs
unfolding paste
paste-at out q [] h a = tt
paste-at out q (b ∷ bs) h (l, a) =
    let m : b % 256 ≡ b = omega arith in
    let n : length (set out q (b % 256)) ≡ length out = length-set out q (b % 256) in (
      paste-before (set out q (b % 256)) (suc q) q bs (omega arith) ∙ get_or-set_same out q (b % 256) 0 (omega arith) ∙ m,
      paste-at (set out q (b % 256)) (suc q) bs (omega arith) a,
    )

-- the string is there, or there was no room for it
pub spells-put : (gs : List Symbol) (out out' : List ℕ) (q' : ℕ) (fits : Bool) → Put out 0 (bytes_of gs) out' q' → Bytes gs → fits ≡ leb q' (length out)
    → Spells gs out' (length out) fits q'
spells-put gs out out' q' fits p b e =
    let n : min q' (suc (length out)) ≡ min (0 + length (bytes_of gs)) (suc (length out)) = p.next in
    record {
      spelt = λ y.
          let l : q' ≤ length out = leb-true q' (length out) (sym e ∙ y) in
          ((subst (λ (o : List ℕ). At o 0 (bytes_of gs)) (sym p.same) (paste-at out 0 (bytes_of gs) (omega arith) b), omega arith), l);
      short = λ y. let l : length out < q' = leb-false q' (length out) (sym e ∙ y) in omega arith;
    }

shapes-same : (shapes : List ℕ) → ShapesFit shapes → shape_in shapes ≡ shapes_of shapes
unfolding shape_in
shapes-same shapes h = fun_ext (λ n. rw (lt-ltb (get_or shapes n 0) shape_limit (h n)))

-- the names of the declarations, by the store
module _ (names declared : List ℕ) (names-fit : NumbersFit names) where
  names-small : (d : ℕ) → (get_or (declarations_in names declared) d no_declaration).1 < 65536
  unfolding declarations_in
  names-small d = go 0 65536 d
    where
      go : (i n k : ℕ) → (get_or (map (λ (d : ℕ). (variable, get_or names (get_or declared d 0) 0)) (numbers_from i n)) k no_declaration).1 < 65536
      go i zero k = omega arith
      go i (suc n) zero = names-fit (get_or declared i 0)
      go i (suc n) (suc k) = go (suc i) n k

  names_same : (decls : Declarations) → length decls ≤ max_declarations → NamesShown names declared decls
      → (d : ℕ) → d < length decls → (get_or decls d no_declaration).1 ≡ (get_or (declarations_in names declared) d no_declaration).1
  names_same decls few shown d h = sym (shown d h) ∙ name-shown names declared d (omega arith)

  -- what was put by the store is the string of a text, or of what a name implies
  module _ (shapes : List ℕ) (P : Setting) (out out' : List ℕ) (q' : ℕ) (fits : Bool) (e : fits ≡ leb q' (length out)) where
    pub spells-text : (look : ℕ → Token → ℕ) (s : List ℕ) (bytes : (i : ℕ) → get_or s i 0 < 256) (n at : ℕ) (t : Expr) (y : ℕ) → expr_at n s at ≡ found t y
        → Put out 0 (bytes_of (spell (shape_in shapes) (term_in look (declarations_in names declared) P t))) out' q'
        → (decls : Declarations) → LooksBelow (max_definitions + length decls) look t → length decls ≤ max_declarations → NamesShown names declared decls → ShapesFit shapes
        → Narrow (spell (shapes_of shapes) (term_in look decls P t)) → Spells (spell (shapes_of shapes) (term_in look decls P t)) out' (length out) fits q'
    spells-text look s bytes n at t y p d decls below few shown fit narrow =
        let ds : Declarations = declarations_in names declared in
        let f : spell (shapes_of shapes) (term_in look decls P t) ≡ spell (shapes_of shapes) (term_in look ds P t) =
        same-string (shapes_of shapes) decls ds P (names_same decls few shown) look t below in
        let g : spell (shape_in shapes) (term_in look ds P t) ≡ spell (shapes_of shapes) (term_in look decls P t) =
        ap (λ (σ : ℕ → ℕ). spell σ (term_in look ds P t)) (shapes-same shapes fit) ∙ sym f in
        let b : Bytes (spell (shapes_of shapes) (term_in look decls P t)) =
        small_bytes (spell (shapes_of shapes) (term_in look decls P t))
        (subst (λ (gs : List Symbol). All small gs) (sym f) (small-string (shapes_of shapes) ds P names-small look t (small-text s bytes n at t y p))) narrow in
        spells-put (spell (shapes_of shapes) (term_in look decls P t)) out out' q' fits (subst (λ (gs : List Symbol). Put out 0 (bytes_of gs) out' q') g d) b e

    spells-implied : (r i p : ℕ) → p < 256
        → Put out 0 (bytes_of (spell (shape_in shapes) (named_in (declarations_in names declared) P r (params_from i p)))) out' q'
        → (decls : Declarations) → r < max_definitions + length decls → length decls ≤ max_declarations → NamesShown names declared decls → ShapesFit shapes
        → Narrow (spell (shapes_of shapes) (named_in decls P r (params_from i p))) → Spells (spell (shapes_of shapes) (named_in decls P r (params_from i p))) out' (length out) fits q'
    spells-implied r i p l d decls below few shown fit narrow =
        let ds : Declarations = declarations_in names declared in
        let us : Terms = params_from i p in
        let f : spell (shapes_of shapes) (named_in decls P r us) ≡ spell (shapes_of shapes) (named_in ds P r us) =
        same-implied (shapes_of shapes) decls ds P (names_same decls few shown) r us below in
        let g : spell (shape_in shapes) (named_in ds P r us) ≡ spell (shapes_of shapes) (named_in decls P r us) =
        ap (λ (σ : ℕ → ℕ). spell σ (named_in ds P r us)) (shapes-same shapes fit) ∙ sym f in
        let b : Bytes (spell (shapes_of shapes) (named_in decls P r us)) =
        small_bytes (spell (shapes_of shapes) (named_in decls P r us))
        (subst (λ (gs : List Symbol). All small gs) (sym f) (small-implied (shapes_of shapes) ds P names-small r i p l)) narrow in
        spells-put (spell (shapes_of shapes) (named_in decls P r us)) out out' q' fits (subst (λ (gs : List Symbol). Put out 0 (bytes_of gs) out' q') g d) b e

pub found-put : (look : ℕ → Token → ℕ) (σ : ℕ → ℕ) (decls : Declarations) (P : Setting) (f : Found) (out : List ℕ) (q : ℕ) (out' : List ℕ) (q' x : ℕ) (t : Expr) (y : ℕ) → f ≡ found t y
    → Wrote look σ decls P f out q out' q' x → Put out q (bytes_of (spell σ (term_in look decls P t))) out' q'
unfolding Wrote
found-put look σ decls P f out q out' q' x t y p w =
    let z : Wrote look σ decls P (found t y) out q out' q' x = subst (λ (g : Found). Wrote look σ decls P g out q out' q' x) p w in
    z.0

mutual
  refs-looks : (m : ℕ) (refs : List ℕ) (t : Expr) → RefsBelow m refs t → LooksBelow m (by_refs refs) t
  refs-looks m refs (node h ts) (a, b) = (a, all-refs-looks m refs ts b)

  all-refs-looks : (m : ℕ) (refs : List ℕ) (ts : Exprs) → AllRefsBelow m refs ts → AllLooksBelow m (by_refs refs) ts
  all-refs-looks m refs ⟨⟩ u = tt
  all-refs-looks m refs (t ▹ ts) (a, b) = (refs-looks m refs t a, all-refs-looks m refs ts b)

-- the walk from the start on
pub text-string : (s refs names declared numbers shapes : List ℕ) (at level outer : ℕ) (out out' : List ℕ) (q' x : ℕ) → ((i : ℕ) → get_or s i 0 < 256)
    → NumbersFit names
    → Wrote (by_refs refs) (shape_in shapes) (declarations_in names declared) (place_of level outer numbers) (expr_at max_nesting s at) out 0 out' q' x
    → TextString s refs names declared numbers shapes at level outer out' (length out) (leb q' (length out)) q'
text-string s refs names declared numbers shapes at level outer out out' q' x bytes names-fit w =
    record {
      told = refl;
      string = λ decls t y p below few shown fit narrow.
          spells-text names declared names-fit shapes (place_of level outer numbers) out out' q' (leb q' (length out)) refl (by_refs refs) s bytes max_nesting at t y p
          (found-put (by_refs refs) (shape_in shapes) (declarations_in names declared) (place_of level outer numbers) (expr_at max_nesting s at) out 0 out' q' x t y p w)
          decls (refs-looks (max_definitions + length decls) refs t below) few shown fit narrow;
    }

pub implied-string : (names declared numbers shapes : List ℕ) (r level outer p k j i : ℕ) (out out₁ : List ℕ) (all : Bool) (m : ℕ) (binds : Bool) (q₁ : ℕ) (out' : List ℕ)
    (all' : Bool) (m' : ℕ) (binds' : Bool) (q' : ℕ) → NumbersFit names → k < 256 → j ≡ k → i ≡ outer + p
    → Named (shape_in shapes) (declarations_in names declared) (place_of level outer numbers) r j out 0 out₁ all m binds q₁
    → Led i k all m out₁ q₁ out' all' m' binds' q'
    → ImpliedString names declared numbers shapes r level outer p k out' (length out) (leb q' (length out)) q'
implied-string names declared numbers shapes r level outer p k j i out out₁ all m binds q₁ out' all' m' binds' q' names-fit lk ej ei d l =
    let P : Setting = place_of level outer numbers in
    let us : Terms = params_from (outer + p) k in
    let g : spell (shape_in shapes) (named_in (declarations_in names declared) P r us) ≡ d.first ++ parts (shape_in shapes) all m false us =
    d.rest us (count-params (outer + p) k ∙ sym ej) ∙ ap (λ (b : Bool). d.first ++ parts (shape_in shapes) all m b us) d.plain in
    let o : Put out₁ q₁ (bytes_of (parts (shape_in shapes) all m false us)) out' q' =
    subst (λ (x : ℕ). Put out₁ q₁ (bytes_of (parts (shape_in shapes) all m false (params_from x k))) out' q') ei (l.put (shape_in shapes)) in
    let w : Put out 0 (bytes_of (spell (shape_in shapes) (named_in (declarations_in names declared) P r us))) out' q' =
    subst (λ (gs : List Symbol). Put out 0 (bytes_of gs) out' q') (sym g)
    (put-symbols out 0 d.first out₁ q₁ (parts (shape_in shapes) all m false us) out' q' d.put o) in
    record {
      string = λ decls below few shown fit narrow.
          spells-implied names declared names-fit shapes P out out' q' (leb q' (length out)) refl r (outer + p) k lk w decls below few shown fit narrow;
    }
