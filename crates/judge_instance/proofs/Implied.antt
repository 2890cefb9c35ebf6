-- A declared name that is not written stands for the operator of that name in the module that is open: the store shows it.
use borrow.Author.Tests.{le-leb, le-ltb, lt-ltb, ltb-false, ltb-true, eqb-true}
use mathlib.Core.Bool.{Bool, cond, false, true}
use mathlib.Core.List.{List, map}
use mathlib.Core.Option.{Option, none, some}
use mathlib.Core.Path.{◌∙◌, ◌≡◌, ap, refl, subst, sym}
use lib.Dec.{eqb, ltb}
use lib.ListN.{get_or, length}
use native.Mathlib.Omega.{arith}
use Prim.Native.Nat.{◌+◌, ◌-◌, ◌<◌, ◌≤◌, ℕ}
use Rattle.context.proofs.Lookups.{current-no, entry_named, entry_of}
use Rattle.context.specs.Holds.{Holds, module_no}
use Rattle.context.specs.Lookup.{as_code, code_named, operator_at, operator_in}
use Rattle.context.specs.Entries.{codes_of, entry_at, field_code, variable_kind}
use Rattle.store.specs.Store.{count_at, first_at, kind_at}
use Rattle.store.specs.declared.Store.{Store}
use Rattle.store.specs.declared.Facts.{Facts}
use Rattle.context.specs.declared.Counts.{Counts}
use Rattle.std.specs.Prelude.{Some, None}
use Rattle.context.specs.declared.Operator.TheVariants.{Constant, Variable, Defined}
use Rattle.entering.specs.Implied.{implied_ref, number_of, ref_of}
use Rattle.laws.proofs.Invariant.{EntryKnown, Good}
use Rattle.laws.proofs.Origins.{Origins}
use Rattle.limits.specs.Limits.{max_declarations, max_definitions}
use Rattle.resolve.proofs.Numbers.{Declares, declarations_of, few-declarations, known-context, numbered-context}
use Rattle.resolve.specs.Meaning.{Numbered}
use Rattle.rules.specs.Field.{Field}
use Rattle.rules.specs.State.{Context, Entry, Module, State, declares, defines, entry_of_name, here, instances, operator_named, operator_of}
use Rattle.texts.specs.Text.{Declarations, no_declaration, ref_head}
use Rattle.theory.proofs.Lists.{find-has, none-some}
use Rattle.theory.specs.Lists.{bind_option, numbers_from}
use Rattle.theory.specs.Term.{Head, Kind, constant, declared, defined, variable}

-- the head of a declaration's number
declared-head : (decls : Declarations) (d : ℕ) (kind : Kind) (x : ℕ) → get_or decls d no_declaration ≡ (kind, x) → ref_head decls (max_definitions + d) ≡ declared kind x
declared-head decls d kind x e =
    let z : max_definitions + d - max_definitions ≡ d = omega arith in
    rw (le-ltb (max_definitions + d) max_definitions (omega arith), z, e)

-- a declaration has its number
number-there : (facts : List Facts) (o : ℕ) → max_definitions ≤ o → kind_at facts o ≤ variable_kind → first_at facts o < max_declarations → number_of facts o ≡ first_at facts o
unfolding number_of
number-there facts o a b l =
    rw (le-leb max_definitions o a, le-leb (kind_at facts o) variable_kind b, lt-ltb (first_at facts o) max_declarations l) refl

module _ (names : List ℕ) (facts : List Facts) (decls : Declarations) (few : length decls ≤ max_declarations) (N : ℕ) (low : N ≤ max_definitions) where
  -- a number is below all definitions and declarations, and stands for h
  abbrev Finds : ℕ → Head → Type 0
  Finds r h = (r < max_definitions + length decls) × (ref_head decls r ≡ h)

  declared-finds : (o : ℕ) (kind : Kind) (x : ℕ) (h : Head) → max_definitions ≤ o → kind_at facts o ≤ variable_kind → first_at facts o < length decls
      → get_or decls (first_at facts o) no_declaration ≡ (kind, x) → some (declared kind x) ≡ some h → Finds (max_definitions + number_of facts o) h
  declared-finds o kind x h a b l e q =
      let n : number_of facts o ≡ first_at facts o = number-there facts o a b (omega arith) in
      let z : declared kind x ≡ h = cc in
      subst (λ (d : ℕ). Finds (max_definitions + d) h) (sym n) (omega arith, declared-head decls (first_at facts o) kind x e ∙ z)

  abbrev entry : ℕ → Bool → Bool → Bool → Entry
  entry o a b e =
      cond a (defines (get_or names o 0) o) (cond b (declares (get_or names o 0) (constant (kind_at facts o)) (o - max_definitions))
      (cond e (declares (get_or names o 0) variable (o - max_definitions)) (instances (get_or names o 0) (o - max_definitions) (numbers_from (first_at facts o) (count_at facts o)))))

  at_code : (o : ℕ) → max_definitions ≤ o → field_code (o - max_definitions) ≡ o
  at_code o h = omega arith

  tested-finds : (o : ℕ) (h : Head) (a : Bool) → ltb o max_definitions ≡ a → (b : Bool) → ltb (kind_at facts o) variable_kind ≡ b → (e : Bool) → eqb (kind_at facts o) variable_kind ≡ e
      → Numbered facts decls (entry o a b e) → EntryKnown N (entry o a b e) → operator_of (entry o a b e) ≡ some h
      → Finds (ref_of facts (cond a (Some (Defined o)) (cond b (Some (Constant o (kind_at facts o))) (cond e (Some (Variable o)) None)))) h
  unfolding ref_of
  tested-finds o h true p b i e j n k q =
      let z : defined o ≡ h = cc in
      (omega arith, rw p z)
  tested-finds o h false p true i e j n k q =
      let l : max_definitions ≤ o = ltb-false o max_definitions p in
      declared-finds o (constant (kind_at facts o)) (get_or names o 0) h l (omega (arith, ltb-true (kind_at facts o) variable_kind i)) (rw (at_code o l) at n.0) (rw (at_code o l) at n.1) q
  tested-finds o h false p false i true j n k q =
      let l : max_definitions ≤ o = ltb-false o max_definitions p in
      declared-finds o variable (get_or names o 0) h l (omega (arith, eqb-true (kind_at facts o) variable_kind j)) (rw (at_code o l) at n.0) (rw (at_code o l) at n.1) q
  tested-finds o h false p false i false j n k q = none-some h q

  code-finds : (o : ℕ) (h : Head) → Numbered facts decls (entry_at names facts o) → EntryKnown N (entry_at names facts o) → operator_of (entry_at names facts o) ≡ some h
      → Finds (ref_of facts (operator_at facts o)) h
  unfolding operator_at entry_at
  code-finds o h n k q = tested-finds o h (ltb o max_definitions) refl (ltb (kind_at facts o) variable_kind) refl (eqb (kind_at facts o) variable_kind) refl n k q

module _ (v : Store) (c : Counts) (s : State) (holds : Holds v c s) (fs : List Field) (declares : Declares v.facts c fs) (origins : Origins fs s) (good : Good s) where
  abbrev decls : Declarations
  decls = declarations_of fs

  abbrev Γ : Context
  Γ = (module_no s c.modules).context

  inside : c.modules ≤ length s.ended
  inside = omega (arith, holds.modules)

  here-there : Γ ≡ here s
  here-there = ap (λ (M : Module). M.context) (current-no v c s holds)

  shows : map (entry_at v.names v.facts) (codes_of v c.modules) ≡ Γ
  shows = ap (λ (M : Module). M.context) (holds.shown c.modules (omega arith))

  -- What a name that is an operator here implies is noted as that operator.
  pub implied-found : (x : ℕ) (h : Head) → operator_named (here s) x ≡ some h
      → (implied_ref v.names v.facts v.contexts v.heads c.modules x < max_definitions + length decls)
      × (ref_head decls (implied_ref v.names v.facts v.contexts v.heads c.modules x) ≡ h)
  unfolding implied_ref operator_in as_code
  implied-found x h q =
      go (code_named v.names x (codes_of v c.modules)) (ap (entry_of_name x) (sym shows) ∙ entry_named v.names v.facts x (codes_of v c.modules))
    where
      N : ℕ
      N = length s.definitions

      there : bind_option (entry_of_name x Γ) operator_of ≡ some h
      there = ap (λ (Δ : Context). operator_named Δ x) here-there ∙ q

      go : (r : Option ℕ) → entry_of_name x Γ ≡ entry_of v.names v.facts r
          → (ref_of v.facts (operator_in v.facts (as_code r)) < max_definitions + length decls) × (ref_head decls (ref_of v.facts (operator_in v.facts (as_code r))) ≡ h)
      go none e = none-some h (sym (ap (λ (o : Option Entry). bind_option o operator_of) e) ∙ there)
      go (some o) e =
          code-finds v.names v.facts decls (few-declarations v.facts c fs declares) (length s.definitions) (omega (arith, holds.definitions, holds.sized.definitions)) o h
          (find-has (Numbered v.facts decls) _ Γ (entry_at v.names v.facts o) (numbered-context s c.modules inside v.facts c fs declares origins) e).0
          (find-has (EntryKnown (length s.definitions)) _ Γ (entry_at v.names v.facts o) (known-context s c.modules inside good) e).0
          (sym (ap (λ (o : Option Entry). bind_option o operator_of) e) ∙ there)
