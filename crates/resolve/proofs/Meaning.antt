-- What is looked up is what the rules find.
use borrow.Author.Tests.{le-leb, le-ltb, lt-ltb, ltb-false}
use mathlib.Core.Bool.{Bool, cond, false, true}
use mathlib.Core.List.{List, [], ◌∷◌, map}
use mathlib.Core.Option.{Option, none, some}
use mathlib.Core.Path.{◌∙◌, ◌≡◌, ap, refl, subst, sym}
use Prim.Native.Nat.{ℕ, zero, suc, ◌+◌, ◌-◌, ◌<◌, ◌≤◌}
use native.Mathlib.Omega.{arith}
use lib.Dec.{eqb, leb, ltb}
use lib.ListN.{get_or, length}
use Rattle.limits.specs.Limits.{max_declarations, max_definitions}
use Rattle.theory.specs.Lists.{All, bind_option, map_option, numbers_from}
use Rattle.theory.specs.Term.{Kind, constant, declared, defined, kind_arity, variable}
use Rattle.theory.proofs.Lists.{find-has}
use Rattle.rules.specs.Expression.{instance_operator, operator}
use Rattle.rules.specs.State.{Context, Entry, Module, State, declares, defines, definition_named, entry_of_name, head_of, instance_of, instances, operator_of}
use Rattle.laws.proofs.Invariant.{EntryKnown}
use Rattle.tokens.specs.declared.Token.TheVariants.{Name, InstanceOperator}
use Rattle.texts.specs.Text.{Declarations, no_declaration, ref_head}
use Rattle.context.specs.Holds.{Holds, module_no}
use Rattle.context.specs.Lookup.{as_code, bringing, brought_in, code_named, code_under, operator_at, operator_in}
use Rattle.context.specs.Entries.{codes_of, entry_at, field_code, variable_kind}
use Rattle.store.specs.Store.{count_at, first_at, kind_at}
use Rattle.store.specs.declared.Store.{Store}
use Rattle.store.specs.declared.Facts.{Facts}
use Rattle.std.specs.Prelude.{Option as Answer, Some, None}
use Rattle.context.specs.declared.Brought.{Brought}
use Rattle.context.specs.declared.Counts.{Counts}
use Rattle.context.specs.declared.Operator.TheVariants.{Constant, Variable, Defined}
use Rattle.context.proofs.Lookups.{brings, brought-law, cond_cases, entry_named, entry_of, instance-law}
use Rattle.context.proofs.Room.{params-law}
use Rattle.resolve.specs.Look.{brought_ref, code_ref, declared_ref, defined_ref, look_in, operator_ref}
use Rattle.resolve.specs.Meaning.{Means, Numbered, head_arity}
use Rattle.resolve.specs.declared.Look.{Look}

-- the head of a declaration's number
ref-declared : (decls : Declarations) (d : ℕ) (kind : Kind) (x : ℕ) → get_or decls d no_declaration ≡ (kind, x) → ref_head decls (max_definitions + d) ≡ declared kind x
ref-declared decls d kind x e =
    let z : max_definitions + d - max_definitions ≡ d = omega arith in
    rw (le-ltb (max_definitions + d) max_definitions (omega arith), z, e)

-- numbers in a row that are all below a bound end below it
row_low : (N a b : ℕ) → All (λ g. g < N) (numbers_from a (suc b)) → a + suc b ≤ N
row_low N a zero h = omega (arith, h.0)
row_low N a (suc b) h = omega (arith, row_low N (suc a) b h.1)

-- what an instance brought is there
brought-known : (N : ℕ) (Γ : Context) → All (EntryKnown N) Γ → (i : ℕ) (gs : List ℕ) → some gs ≡ bind_option (entry_of_name i Γ) instance_of → All (λ g. g < N) gs
brought-known N Γ h i gs e = go (entry_of_name i Γ) refl e
  where
    go : (o : Option Entry) → entry_of_name i Γ ≡ o → some gs ≡ bind_option o instance_of → All (λ g. g < N) gs
    go none p q = absurd (let z : ◌≡◌ {A = ℕ} 0 1 = cc in omega arith)
    go (some (declares x k f)) p q = absurd (let z : ◌≡◌ {A = ℕ} 0 1 = cc in omega arith)
    go (some (defines x g)) p q = absurd (let z : ◌≡◌ {A = ℕ} 0 1 = cc in omega arith)
    go (some (instances x f bs)) p q =
        let r : bs ≡ gs = cc in
        subst (All (λ g. g < N)) r (find-has (EntryKnown N) _ Γ (instances x f bs) h p).0

module _ (v : Store) (c : Counts) (s : State) (holds : Holds v c s) (decls : Declarations) (few : length decls ≤ max_declarations) where
  abbrev names : List ℕ
  names = v.names

  abbrev facts : List Facts
  facts = v.facts

  -- a declaration, and a definition
  declared-means : (o k : ℕ) (kind : Kind) (x : ℕ) → first_at facts o < length decls → get_or decls (first_at facts o) no_declaration ≡ (kind, x) → k ≡ kind_arity kind
      → Means s decls (declared_ref facts o k) (some (declared kind x))
  unfolding declared_ref
  declared-means o k kind x l e h =
      let r = ref-declared decls (first_at facts o) kind x e in
      rw (lt-ltb (first_at facts o) max_declarations (omega arith)) (ap some (sym r), h ∙ ap (head_arity s) (sym r))

  defined-means : (g : ℕ) → g < length s.definitions → Means s decls (Some (defined_ref facts g)) (some (defined g))
  unfolding defined_ref
  defined-means g l =
      let n : g < c.definitions = omega (arith, holds.definitions) in
      let r : ref_head decls g ≡ defined g = rw (lt-ltb g max_definitions (omega (arith, holds.sized.definitions))) refl in
      (ap some (sym r), params-law v c s holds g n ∙ ap (head_arity s) (sym r))

  -- a code, by the tests of its kind
  abbrev entry : ℕ → Bool → Bool → Bool → Entry
  entry o a b e =
      cond a (defines (get_or names o 0) o) (cond b (declares (get_or names o 0) (constant (kind_at facts o)) (o - max_definitions))
      (cond e (declares (get_or names o 0) variable (o - max_definitions)) (instances (get_or names o 0) (o - max_definitions) (numbers_from (first_at facts o) (count_at facts o)))))

  at_code : (o : ℕ) → ltb o max_definitions ≡ false → field_code (o - max_definitions) ≡ o
  at_code o p = let h : max_definitions ≤ o = ltb-false o max_definitions p in omega arith

  tested-means : (o : ℕ) (a : Bool) → ltb o max_definitions ≡ a → (b e : Bool) → Numbered facts decls (entry o a b e) → EntryKnown (length s.definitions) (entry o a b e)
      → Means s decls (operator_ref facts (cond a (Some (Defined o)) (cond b (Some (Constant o (kind_at facts o))) (cond e (Some (Variable o)) None)))) (operator_of (entry o a b e))
  unfolding operator_ref
  tested-means o true p b e h k = defined-means o k
  tested-means o false p true e h k =
      declared-means o (kind_at facts o) (constant (kind_at facts o)) (get_or names o 0) (rw (at_code o p) at h.0) (rw (at_code o p) at h.1) refl
  tested-means o false p false true h k = declared-means o 0 variable (get_or names o 0) (rw (at_code o p) at h.0) (rw (at_code o p) at h.1) refl
  tested-means o false p false false h k = refl

  code-means : (o : ℕ) → Numbered facts decls (entry_at names facts o) → EntryKnown (length s.definitions) (entry_at names facts o)
      → Means s decls (operator_ref facts (operator_at facts o)) (operator_of (entry_at names facts o))
  unfolding operator_at entry_at
  code-means o h k = tested-means o (ltb o max_definitions) refl (ltb (kind_at facts o) variable_kind) (eqb (kind_at facts o) variable_kind) h k

  -- what stands under an instance
  under-means : (gs : List ℕ) (i f : ℕ) → 0 < i → All (λ g. g < length s.definitions) gs
      → Means s decls (code_ref facts (as_code (code_under names facts i f gs))) (map_option defined (definition_named s gs (i ∷ []) f))
  unfolding code_ref as_code
  under-means gs i f p h = rw (brought-law v c s holds i f p gs h) (go (definition_named s gs (i ∷ []) f) refl)
    where
      go : (o : Option ℕ) → definition_named s gs (i ∷ []) f ≡ o → Means s decls (code_ref facts (as_code o)) (map_option defined o)
      go none e = refl
      go (some g) e = defined-means g (find-has (λ g. g < length s.definitions) _ gs g h e).0

  brought-means : (i f a b : ℕ) → 0 < i → All (λ g. g < length s.definitions) (numbers_from a b)
      → Means s decls (brought_ref names facts i f (Some (bringing a b))) (map_option defined (definition_named s (numbers_from a b) (i ∷ []) f))
  unfolding brought_ref code_ref as_code code_under
  brought-means i f a zero p h = cond_cases (λ (l : Answer Look). Means s decls l none) (leb (a + 0) max_definitions) (λ _. refl) (λ _. refl)
  brought-means i f a (suc b) p h =
      rw (le-leb (a + suc b) max_definitions (omega (arith, row_low (length s.definitions) a b h, holds.definitions, holds.sized.definitions)))
      (under-means (numbers_from a (suc b)) i f p h)

  module _ (m : ℕ) (there : m ≤ c.modules) (numbered : All (Numbered facts decls) (module_no s m).context)
      (known : All (EntryKnown (length s.definitions)) (module_no s m).context) where
    abbrev Γ : Context
    Γ = (module_no s m).context

    shows : map (entry_at names facts) (codes_of v m) ≡ Γ
    shows = ap (λ (M : Module). M.context) (holds.shown m there)

    -- A name is what the rules find in the context of module m,
    pub name-means : (n k : ℕ) → Means s decls (look_in names facts (codes_of v m) (Name n k)) (head_of s Γ (operator n k))
    unfolding look_in operator_in as_code operator_ref
    name-means n k = go (code_named names n (codes_of v m)) (ap (entry_of_name n) (sym shows) ∙ entry_named names facts n (codes_of v m))
      where
        go : (r : Option ℕ) → entry_of_name n Γ ≡ entry_of names facts r → Means s decls (operator_ref facts (operator_in facts (as_code r))) (bind_option (entry_of_name n Γ) operator_of)
        go none e = rw e refl
        go (some o) e =
            rw e (code-means o (find-has (Numbered facts decls) _ Γ (entry_at names facts o) numbered e).0 (find-has (EntryKnown (length s.definitions)) _ Γ (entry_at names facts o) known e).0)

    -- and so is I!F.
    pub instance-means : (i f k : ℕ) → 0 < i → Means s decls (look_in names facts (codes_of v m) (InstanceOperator i f k)) (head_of s Γ (instance_operator i f k))
    unfolding look_in brought_ref
    instance-means i f k p = go (brought_in facts (as_code (code_named names i (codes_of v m)))) (instance-law v c s holds m i there)
      where
        go : (x : Answer Brought) → brings x ≡ bind_option (entry_of_name i Γ) instance_of
            → Means s decls (brought_ref names facts i f x) (map_option defined (bind_option (bind_option (entry_of_name i Γ) instance_of) (λ gs. definition_named s gs (i ∷ []) f)))
        go (Some b) e = rw (← e) (brought-means i f b.first b.count p (brought-known (length s.definitions) Γ known i (numbers_from b.first b.count) e))
        go None e = rw (← e) refl
