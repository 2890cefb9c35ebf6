-- The store after an INSTANCE field shows its link.
use borrow.Author.Tests.{eqb-true}
use mathlib.Core.Bool.{Bool, ◌&&◌, cond, false, not, true}
use mathlib.Core.List.{List}
use mathlib.Core.Option.{Option, none, some}
use mathlib.Core.Path.{◌∙◌, ◌≡◌, ap, refl, subst, sym}
use lib.Dec.{eqb, eqb→eq, ltb}
use lib.ListN.{get_or}
use native.Mathlib.Omega.{arith}
use Prim.Native.Nat.{◌*◌, ◌+◌, ◌<◌, ◌≤◌, ℕ}
use Rattle.context.proofs.Judging.{kind-law, kind_answered}
use Rattle.context.specs.Holds.{Holds, module_no}
use Rattle.context.specs.Lookup.{as_code, declared_named, declares_name, is_declared, operator_at, operator_in}
use Rattle.context.specs.Entries.{after_definitions, codes_of, field_code, variable_kind}
use Rattle.store.specs.Store.{kind_at, order_slot}
use Rattle.store.specs.declared.Store.{Store}
use Rattle.store.specs.declared.Facts.{Facts}
use Rattle.context.specs.declared.Counts.{Counts}
use Rattle.std.specs.Prelude.{Option as Answer, Some, None}
use Rattle.context.specs.declared.Operator.TheVariants.{Constant, Variable, Defined}
use Rattle.entering.proofs.Outset.{kind_number}
use Rattle.entering.specs.Written.{written_at}
use Rattle.instancing.specs.Bringing.{instancing}
use Rattle.laws.proofs.Invariant.{Good}
use Rattle.laws.proofs.Origins.{Origins}
use Rattle.laws.proofs.Resolved.{same_kind_lem}
use Rattle.limits.specs.Limits.{max_definitions}
use Rattle.limits.specs.Sizes.{max_fields}
use Rattle.resolve.proofs.Numbers.{Declares, declarations_of, few-declarations}
use Rattle.rules.specs.Expression.{Expression}
use Rattle.rules.specs.Field.{Field, Substitution}
use Rattle.rules.specs.Instance.{declared_in, is_kind, kind_in, source, stands_for_itself, substitute, substitute_or, substitution_for}
use Rattle.rules.specs.Judge.{instance_unknown, itself_unknown, substitute_unknown}
use Rattle.rules.specs.State.{Module, State, here, operator_named}
use Rattle.standing.proofs.Names.{declared-kept, declared_known, implied-kept, kind-kept, rows_of}
use Rattle.standing.specs.Grows.{Grows}
use Rattle.standing.specs.Shown.{Declaration, ImpliedShown, LinkShown, StandsFor, owner_shift}
use Rattle.texts.specs.Text.{Declarations, ref_head}
use Rattle.theory.proofs.Lists.{and_parts, any_false, find-has, none-some, or-false}
use Rattle.theory.specs.Expand.{itself}
use Rattle.theory.specs.Lists.{All, any, find, is_some, map_option, or_else}
use Rattle.theory.specs.Term.{Head, Kind, constant, declared, leaf, literal, variable}
use Rattle.worlds.specs.Rows.{link_of}
use Rattle.judge_instance.proofs.Field.{field-first, field-kind, field-link, field-source, field-via}
use Rattle.judge_instance.proofs.Implied.{implied-found}
use Rattle.instance_names.specs.Names.{Agrees}

-- the substitute of a declared name is what is written for it, or implied
pub substitute-declared : (s : State) (p : ℕ) (M : Module) (ss : List Substitution) (k : Kind) (x : ℕ) → kind_in M x ≡ some k
    → substitute s p M ss k x ≡ substitute_or s p k x (substitution_for ss x)
substitute-declared s p M ss k x e =
    ap (λ (o : Option Kind). cond (is_kind k o) (substitute_or s p k x (substitution_for ss x)) (itself p k (declared k x))) e
    ∙ ap (λ (b : Bool). cond b (substitute_or s p k x (substitution_for ss x)) (itself p k (declared k x))) (same_kind_lem k)

-- cause 9 clear: a declared name that is not written is an operator here
pub itself-known : (s : State) (p : ℕ) (M : Module) (ss : List Substitution) → instance_unknown s p M ss ≡ false → (k : Kind) (x : ℕ) → kind_in M x ≡ some k
    → substitution_for ss x ≡ none → (h : Head) × (operator_named (here s) x ≡ some h)
itself-known s p M ss clear k x e none-there = found_at (find (λ (d : Kind × ℕ). eqb x d.1) (declared_in M)) refl e
  where
    operator-at : (o : Option Head) → operator_named (here s) x ≡ o → not (is_some o) ≡ false → (h : Head) × (operator_named (here s) x ≡ some h)
    operator-at none q f = absurd (let z : ◌≡◌ {A = ℕ} 0 1 = cc in omega arith)
    operator-at (some h) q f = (h, q)

    found_at : (o : Option (Kind × ℕ)) → find (λ (d : Kind × ℕ). eqb x d.1) (declared_in M) ≡ o → map_option (λ d. d.0) o ≡ some k
        → (h : Head) × (operator_named (here s) x ≡ some h)
    found_at none q f = none-some k f
    found_at (some d) q f =
        let u = find-has (λ d. itself_unknown s ss d ≡ false) (λ (d : Kind × ℕ). eqb x d.1) (declared_in M) d
        (any_false (itself_unknown s ss) (declared_in M) (or-false (any (substitute_unknown s p M) ss) (any (itself_unknown s ss) (declared_in M)) clear).1) q in
        let y = eqb→eq x d.1 u.1 in
        operator-at (operator_named (here s) x) refl
        (subst (λ (o : Option Expression). not (is_some o) && not (is_some (operator_named (here s) x)) ≡ false) none-there
        (subst (λ (y : ℕ). stands_for_itself ss y && not (is_some (operator_named (here s) y)) ≡ false) (sym y) u.0))

-- the code that answers what a name is declared as
kind-there : (facts : List Facts) (o : ℕ) (k : Kind) → kind_answered (operator_at facts o) ≡ some k → kind_at facts o ≡ kind_number k
unfolding operator_at
kind-there facts o k e = go (ltb o max_definitions) (ltb (kind_at facts o) variable_kind) (eqb (kind_at facts o) variable_kind) refl e
  where
    go : (a b d : Bool) → eqb (kind_at facts o) variable_kind ≡ d
        → kind_answered (cond a (Some (Defined o)) (cond b (Some (Constant o (kind_at facts o))) (cond d (Some (Variable o)) None))) ≡ some k → kind_at facts o ≡ kind_number k
    go true b d p q = none-some k q
    go false true d p q = let z : constant (kind_at facts o) ≡ k = cc in ap kind_number z
    go false false true p q =
        let z : variable ≡ k = cc in
        eqb-true (kind_at facts o) variable_kind p ∙ ap kind_number z
    go false false false p q = none-some k q

module _ (v : Store) (c : Counts) (s : State) (holds : Holds v c s) where
  -- a declared name of an ended module is a declaration that is found there
  pub declaration-there : (q : ℕ) → q ≤ c.modules → (k : Kind) (x : ℕ) → kind_in (module_no s q) x ≡ some k → Declaration v q k x
  unfolding operator_in as_code declared_named
  declaration-there q l k x e = go (declared_named v.names v.facts x (codes_of v q)) refl (kind-law v c s holds q x l ∙ e)
    where
      all-unit : (xs : List ℕ) → All (λ o. Unit {0}) xs
      all-unit List.[] = tt
      all-unit (List.◌∷◌ x xs) = (tt, all-unit xs)

      go : (r : Option ℕ) → declared_named v.names v.facts x (codes_of v q) ≡ r → kind_answered (operator_in v.facts (as_code r)) ≡ some k → Declaration v q k x
      go none p a = none-some k a
      go (some o) p a =
          let t = (find-has (λ o. Unit {0}) (declares_name v.names v.facts x) (codes_of v q) o (all-unit (codes_of v q)) p).1 in
          record {
            code = o;
            found = p;
            kind = kind-there v.facts o k a;
            named = sym (eqb→eq x (get_or v.names o 0) (and_parts (is_declared v.facts o) (eqb x (get_or v.names o 0)) t).1);
          }

module _ (v : Store) (c : Counts) (s : State) (holds : Holds v c s) (fs : List Field) (declares : Declares v.facts c fs) (origins : Origins fs s) (good : Good s)
    (room : c.fields < max_fields) (n p m q at k : ℕ) (ss : List Substitution) (earlier : q < c.modules) (found : source s m ≡ module_no s q)
    (few : c.definitions + get_or v.heads (order_slot q) 0 ≤ max_definitions) (small : k < owner_shift) (known : instance_unknown s p (source s m) ss ≡ false)
    (grows : Grows v c (instancing c n p q at (k + owner_shift * c.modules) v) (after_definitions (get_or v.heads (order_slot q) 0) c)) where
  abbrev decls : Declarations
  decls = declarations_of fs

  -- how many substitutions are written, and the module that the field stands in
  abbrev noted : ℕ
  noted = k + owner_shift * c.modules

  abbrev store-after : Store
  store-after = instancing c n p q at noted v

  abbrev counts-after : Counts
  counts-after = after_definitions (get_or v.heads (order_slot q) 0) c

  declaration-after : (d : Kind) (x : ℕ) → kind_in (source s m) x ≡ some d → Declaration store-after q d x
  declaration-after d x e =
      let o = declaration-there v c s holds q (omega arith) d x (subst (λ (M : Module). kind_in M x ≡ some d) found e) in
      let given = declared_known v c s store-after counts-after holds grows q x o.code earlier o.found in
      record {
        code = o.code;
        found = declared-kept v c s store-after counts-after holds grows q x o.code earlier o.found;
        kind = kind-kept v c store-after (rows_of grows) o.code given ∙ o.kind;
        named = grows.names o.code given ∙ o.named;
      }

  -- a name that stands for itself
  implied-after : (d : Kind) (x : ℕ) → kind_in (source s m) x ≡ some d → substitution_for ss x ≡ none
      → ImpliedShown store-after decls c.modules p d x (substitute_or s p d x none)
  implied-after d x e w =
      let h = itself-known s p (source s m) ss known d x e w in
      let f = implied-found v c s holds fs declares origins good x h.0 h.1 in
      let z = implied-kept v c s store-after counts-after holds grows c.modules x (omega arith) (omega (arith, f.0, few-declarations v.facts c fs declares)) in
      record {
        below = rw z f.0;
        same =
            ap (λ (r : ℕ). itself p d (ref_head decls r)) z
            ∙ ap (itself p d) (f.1 ∙ sym (ap (or_else (leaf (literal 0))) h.1));
      }

  module _ (file refs : List ℕ) (end : ℕ) (agrees : (x : ℕ) → Agrees file refs decls end s (written_at k file at x) (substitution_for ss x)) where
    stands_after : (d : Kind) (x : ℕ) → kind_in (source s m) x ≡ some d
        → StandsFor store-after file refs decls end c.modules p d x (substitute s p (source s m) ss d x) (written_at k file at x)
    stands_after d x e =
        subst (λ u. StandsFor store-after file refs decls end c.modules p d x u (written_at k file at x)) (sym (substitute-declared s p (source s m) ss d x e))
        (go (written_at k file at x) (substitution_for ss x) refl (agrees x))
      where
        go : (w : Answer ℕ) (o : Option Expression) → substitution_for ss x ≡ o → Agrees file refs decls end s w o
            → StandsFor store-after file refs decls end c.modules p d x (substitute_or s p d x o) w
        go (Some a) (some y) z t = t
        go (Some a) none z t = absurd t
        go None (some y) z t = absurd t
        go None none z t = implied-after d x e z

    -- The field's link is shown.
    pub link-shown : LinkShown store-after counts-after file refs decls end (link_of s p m ss) (field_code c.fields)
    link-shown =
        record {
          q = q;
          owner = c.modules;
          start = at;
          count = k;
          code = (omega arith, omega arith);
          params = field-kind v c holds.sized room n p q at noted few;
          first = field-first v c holds.sized room n p q at noted few ∙ holds.definitions;
          via = field-via v c holds.sized room n p q at noted few;
          source = field-source v c holds.sized room n p q at noted few;
          link = field-link v c holds.sized room n p q at noted few;
          few = small;
          ended = earlier;
          stood = (earlier, omega arith);
          names = grows.orders q earlier ∙ ap (λ (M : Module). M.definitions) (holds.shown q (omega arith) ∙ sym found);
          kinds = declaration-after;
          substitutes = stands_after;
        }
