-- What stands after a lawful CONSTANT or VARIABLE field.
use borrow.Author.Tests.{ltb-false, ltb-true}
use mathlib.Core.Bool.{Bool, false, true}
use mathlib.Core.List.{List, [], ◌++◌, ◌∷◌, append-nil}
use mathlib.Core.Option.{Option, none, some}
use mathlib.Core.Path.{◌∙◌, ◌≡◌, ap, refl, subst, sym}
use Prim.Native.Nat.{ℕ, ◌+◌, ◌≤◌, ◌<◌}
use native.Mathlib.Omega.{arith}
use lib.Dec.{ltb}
use lib.ListN.{get_or-append, get_or, length, length-append, set}
use lib.Seq.{get_or-append_seam, get_or-set_other, get_or-set_same}
use Rattle.limits.specs.Limits.{max_arity, max_declarations, max_definitions}
use Rattle.limits.specs.Sizes.{code_count, max_fields}
use Rattle.theory.specs.Lists.{All, ◌∷?◌}
use Rattle.theory.specs.Term.{Kind, constant, declared_level, kind_arity, variable}
use Rattle.theory.specs.Level.{IsLevel}
use Rattle.rules.specs.Add.{add}
use Rattle.rules.specs.Field.{Field, declare_constant, declare_variable}
use Rattle.rules.specs.Judge.{judge}
use Rattle.rules.specs.State.{Added, State, inside}
use Rattle.laws.proofs.Origins.{declaration}
use Rattle.worlds.specs.Rows.{Row, new_rows, rows_after}
use Rattle.fields.specs.declared.Parts.{Parts}
use Rattle.texts.specs.Text.{Declarations, no_declaration}
use Rattle.context.specs.Holds.{Holds}
use Rattle.context.specs.Entries.{after_declaration, declaration_row, declaring, field_code}
use Rattle.store.specs.Store.{kind_at}
use Rattle.store.specs.declared.Store.{Store}
use Rattle.store.specs.declared.Facts.{Facts}
use Rattle.context.specs.declared.Counts.{Counts}
use Rattle.context.proofs.Adds.{adds_constant, adds-variable}
use Rattle.context.proofs.Change.{fact-same}
use Rattle.levels.specs.Tables.{scene_of}
use Rattle.text_levels.proofs.OwnWorld.{Shows}
use Rattle.resolve.proofs.Numbers.{declarations_of, declares-declaration}
use Rattle.entering.specs.Itself.{Put, itself_level}
use Rattle.entering.proofs.Outset.{itself-level, kind_number}
use Rattle.judge_plain.specs.declared.Phase.{Phase}
use Rattle.judge_plain.specs.declared.Phase.TheVariants.{Inside}
use Rattle.standing.specs.Chained.{Chained}
use Rattle.standing.specs.Grows.{Grows, RowsKept}
use Rattle.standing.specs.Standing.{AtField, DeclaredCodes, Standing, itselves}
use Rattle.standing.proofs.Advancing.{bytes-more, declarations-more, few-declared, fields-counted, stands_after}
use Rattle.standing.proofs.Forms.{codes-kept, declaration-form, definition-form}
use Rattle.standing.proofs.Growth.{grows-add, new-field, rows-stored}
use Rattle.standing.proofs.Links.{all-chained, rows-counted}
use Rattle.standing.proofs.Texts.{same-below}

-- the field that declares a name
abbrev pub field_of : Kind → ℕ → Field
field_of (constant k) n = declare_constant n k
field_of variable n = declare_variable n

declares-it : (k : Kind) (n : ℕ) → declaration (field_of k n) ≡ some (k, n)
declares-it (constant k) n = refl
declares-it variable n = refl

added-definitions : (s : State) (k : Kind) (n : ℕ) → (add s (field_of k n)).definitions ≡ s.definitions ++ []
added-definitions s (constant k) n = refl
added-definitions s variable n = refl

added-phase : (s : State) (k : Kind) (n : ℕ) → inside ≡ (add s (field_of k n)).phase
added-phase s (constant k) n = refl
added-phase s variable n = refl

-- what holds of each declaration so far, and of the next
each_more : (P : ℕ → Type 0) (xs : Declarations) (y : Kind × ℕ) → ((d : ℕ) → d < length xs → P d) → P (length xs) → (d : ℕ) → d < length (xs ++ (y ∷ [])) → P d
each_more P xs y old new d l = go (ltb d (length xs)) refl
  where
    go : (b : Bool) → ltb d (length xs) ≡ b → P d
    go true e = old d (ltb-true d (length xs) e)
    go false e =
        let n : length xs ≤ d = ltb-false d (length xs) e in
        let m : length (xs ++ (y ∷ [])) ≡ length xs + 1 = length-append xs (y ∷ []) in
        let q : length xs ≡ d = omega arith in
        subst P q new

-- one code more
module _ (decls : Declarations) (y : Kind × ℕ) (declared : List ℕ) (o : ℕ) (size : length declared ≡ max_declarations) (few : length decls < max_declarations) where
  abbrev after : List ℕ
  after = set declared (length decls) o

  old-code : (d : ℕ) → d < length decls → get_or after d 0 ≡ get_or declared d 0
  old-code d l = get_or-set_other declared (length decls) d o 0 (λ (q : d ≡ length decls). omega arith)

  new-code : get_or after (length decls) 0 ≡ o
  new-code = get_or-set_same declared (length decls) o 0 (omega arith)

  old-one : (d : ℕ) → d < length decls → get_or decls d no_declaration ≡ get_or (decls ++ (y ∷ [])) d no_declaration
  old-one d l = sym (get_or-append decls (y ∷ []) no_declaration d l)

  new-one : y ≡ get_or (decls ++ (y ∷ [])) (length decls) no_declaration
  new-one = sym (get_or-append_seam decls y [] no_declaration)

  pub codes-more : (v : Store) → DeclaredCodes v decls declared → get_or v.names o 0 ≡ y.1 → kind_at v.facts o ≡ kind_number y.0 → max_definitions ≤ o → o < code_count
      → kind_arity y.0 ≤ max_arity → DeclaredCodes v (decls ++ (y ∷ [])) after
  codes-more v x named kind low high arity = record {
    named = each_more (λ d. get_or v.names (get_or after d 0) 0 ≡ (get_or (decls ++ (y ∷ [])) d no_declaration).1) decls y
        (λ d l. ap (λ (e : ℕ). get_or v.names e 0) (old-code d l) ∙ x.named d l ∙ ap (λ (z : Kind × ℕ). z.1) (old-one d l))
        (ap (λ (e : ℕ). get_or v.names e 0) new-code ∙ named ∙ ap (λ (z : Kind × ℕ). z.1) new-one);
    kind = each_more (λ d. kind_at v.facts (get_or after d 0) ≡ kind_number (get_or (decls ++ (y ∷ [])) d no_declaration).0) decls y
        (λ d l. ap (kind_at v.facts) (old-code d l) ∙ x.kind d l ∙ ap (λ (z : Kind × ℕ). kind_number z.0) (old-one d l))
        (ap (kind_at v.facts) new-code ∙ kind ∙ ap (λ (z : Kind × ℕ). kind_number z.0) new-one);
    code = each_more (λ d. (max_definitions ≤ get_or after d 0) × (get_or after d 0 < code_count)) decls y
        (λ d l. (omega (arith, old-code d l, (x.code d l).0), omega (arith, old-code d l, (x.code d l).1)))
        (omega (arith, new-code), omega (arith, new-code));
    few = each_more (λ d. kind_arity (get_or (decls ++ (y ∷ [])) d no_declaration).0 ≤ max_arity) decls y
        (λ d l. subst (λ (z : Kind × ℕ). kind_arity z.0 ≤ max_arity) (old-one d l) (x.few d l))
        (subst (λ (z : Kind × ℕ). kind_arity z.0 ≤ max_arity) new-one arity);
  }

  pub early-more : (m n : ℕ) → m ≤ n → ((d : ℕ) → d < length decls → get_or declared d 0 < m) → o < n → (d : ℕ) → d < length (decls ++ (y ∷ [])) → get_or after d 0 < n
  early-more m n l old new = each_more (λ d. get_or after d 0 < n) decls y (λ d h. omega (arith, old-code d h, old d h)) (omega (arith, new-code))

module _ (file : List ℕ) (fs : List Field) (s : State) (rs : List Row) (v : Store) (c : Counts) (p : Phase) (refs words : List ℕ)
    (st : Standing file fs s rs v c p refs words) (k : Kind) (n : ℕ) (words' : List ℕ) (room : c.fields < max_fields)
    (few : c.declarations < max_declarations) (small : kind_arity k ≤ max_arity)
    (put : Put (itself_level (kind_number k)) words words' (max_definitions + c.declarations)) (lawful : judge s (field_of k n) ≡ none)
    (x : Parts) (at : AtField file s x (field_of k n)) where
  abbrev decls : Declarations
  decls = declarations_of fs

  abbrev declared : List ℕ
  declared = v.declared

  abbrev v' : Store
  v' = declaring v c (kind_number k) n

  abbrev s' : State
  s' = add s (field_of k n)

  abbrev o : ℕ
  o = field_code c.fields

  counted : length decls ≡ c.declarations
  counted = sym st.declares.counted

  holds_after : Holds v' (after_declaration c) s'
  holds_after = by k small
    where
      by : (k : Kind) → kind_arity k ≤ max_arity → Holds (declaring v c (kind_number k) n) (after_declaration c) (add s (field_of k n))
      by (constant k) l = adds_constant v c s st.holds room n k (omega arith)
      by variable l = adds-variable v c s st.holds room n

  rows-after : RowsKept v c v'
  rows-after = rows-stored v c v' o n (declaration_row (kind_number k) c.declarations) (new-field c) refl refl

  grows : Grows v c v' (after_declaration c)
  grows = grows-add v c s v' (after_declaration c) st.holds rows-after st.fresh (field_of k n) lawful holds_after

  more : declarations_of (fs ++ (field_of k n ∷ [])) ≡ decls ++ ((k, n) ∷ [])
  more = declarations-more fs (field_of k n) ∙ ap (λ (y : Option (Kind × ℕ)). decls ++ ◌∷?◌ y []) (declares-it k n)

  codes-after : DeclaredCodes v' (decls ++ ((k, n) ∷ [])) (set declared (length decls) o)
  codes-after =
      codes-more decls (k, n) declared o st.holds.sized.declared (omega (arith, counted)) v' (codes-kept v c v' decls declared rows-after st.early st.codes)
      (get_or-set_same v.names o n 0 (omega (arith, st.holds.sized.names)))
      (ap (λ (f : Facts). f.kind) (fact-same v.facts o (declaration_row (kind_number k) c.declarations) (omega (arith, st.holds.sized.facts))))
      (omega arith) (omega arith) small

  early-after : (d : ℕ) → d < length (decls ++ ((k, n) ∷ [])) → get_or (set declared (length decls) o) d 0 < max_definitions + (c.fields + 1)
  early-after =
      early-more decls (k, n) declared o st.holds.sized.declared (omega (arith, counted)) (max_definitions + c.fields) (max_definitions + (c.fields + 1)) (omega arith)
      st.early (omega arith)

  forms-after : Shows (scene_of itselves words') (decls ++ ((k, n) ∷ [])) s'
  forms-after = record {
    definitions = λ g us l e a.
        let z : length s'.definitions ≡ length s.definitions = ap (λ (ds : List Added). length ds) (added-definitions s k n ∙ append-nil s.definitions) in
        definition-form s s' [] (added-definitions s k n) words words' decls st.forms (omega (arith, st.holds.definitions, st.holds.sized.definitions))
        (λ h i. put.others h (λ (q : h ≡ max_definitions + c.declarations). omega (arith, st.holds.definitions, st.holds.sized.definitions))) g us (omega arith) e a;
    declarations = λ d us l. each_more
        (λ d. length us ≡ kind_arity (get_or (decls ++ ((k, n) ∷ [])) d no_declaration).0 → All IsLevel us → (scene_of itselves words').declarations d us
        ≡ declared_level (get_or (decls ++ ((k, n) ∷ [])) d no_declaration).0 (get_or (decls ++ ((k, n) ∷ [])) d no_declaration).1 us)
        decls (k, n)
        (λ d l e a. declaration-form s s' [] (added-definitions s k n) words words' decls st.forms ((k, n) ∷ [])
        (λ h i. put.others (max_definitions + h) (λ (q : max_definitions + h ≡ max_definitions + c.declarations). omega (arith, counted))) d us l e a)
        (new us) d l;
  }
    where
      new : (us : List ℕ) → length us ≡ kind_arity (get_or (decls ++ ((k, n) ∷ [])) (length decls) no_declaration).0 → All IsLevel us
          → (scene_of itselves words').declarations (length decls) us
          ≡ declared_level (get_or (decls ++ ((k, n) ∷ [])) (length decls) no_declaration).0 (get_or (decls ++ ((k, n) ∷ [])) (length decls) no_declaration).1 us
      new us e a =
          let q : get_or (decls ++ ((k, n) ∷ [])) (length decls) no_declaration ≡ (k, n) = get_or-append_seam decls (k, n) [] no_declaration in
          ap (λ (d : ℕ). (scene_of itselves words').declarations d us) counted ∙ put.here.at us (omega (arith, e, ap (λ (z : Kind × ℕ). kind_arity z.0) q)) a
          ∙ itself-level k n us small (e ∙ ap (λ (z : Kind × ℕ). kind_arity z.0) q) a ∙ sym (ap (λ (z : Kind × ℕ). declared_level z.0 z.1 us) q)

  -- All stands after the field.
  pub declared-stands : Standing file (fs ++ (field_of k n ∷ [])) s' (rows_after s rs (field_of k n)) v' (after_declaration c) Inside refs words'
  declared-stands =
      let f : Field = field_of k n in
      stands_after file fs s rs v c p refs words st x f at lawful v' (after_declaration c) Inside refs holds_after (added-phase s k n) words'
      (declares-declaration v.facts c fs f (k, n) (kind_number k) st.declares (declares-it k n)
      (fields-counted file fs s rs v c p refs words st) room few st.holds.sized.facts)
      (subst (λ (ds : Declarations). DeclaredCodes v' ds (set declared c.declarations o)) (sym more)
      (subst (λ (m : ℕ). DeclaredCodes v' (decls ++ ((k, n) ∷ [])) (set declared m o)) counted codes-after))
      (subst (λ (ds : Declarations). (d : ℕ) → d < length ds → get_or (set declared c.declarations o) d 0 < max_definitions + (c.fields + 1)) (sym more)
      (subst (λ (m : ℕ). (d : ℕ) → d < length (decls ++ ((k, n) ∷ [])) → get_or (set declared m o) d 0 < max_definitions + (c.fields + 1)) counted early-after))
      (subst (λ (ds : Declarations). Shows (scene_of itselves words') ds s') (sym more) forms-after)
      (subst (λ (ds : Declarations). Chained v' (after_declaration c) file refs ds s' (rows_after s rs f) s'.bytes) (sym more)
      (all-chained v c s v' (after_declaration c) st.holds grows file refs refs decls ((k, n) ∷ []) s.bytes s'.bytes
      (few-declared file fs s rs v c p refs words st) (same-below s.bytes refs) (omega (arith, bytes-more s f)) s' [] rs (new_rows s rs f)
      (added-definitions s k n) (rows-counted v c s rs st.holds st.worlds) refl st.chained))
      st.refs_size (put.size ∙ st.words_size)
