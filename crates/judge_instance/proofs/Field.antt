-- The store after the whole field: what it keeps, and what is new.
use mathlib.Core.List.{List}
use mathlib.Core.Path.{◌∙◌, ◌≡◌, ap}
use lib.ListN.{get_or, length}
use native.Mathlib.Omega.{arith}
use Prim.Native.Nat.{◌*◌, ◌+◌, ◌<◌, ◌≤◌, suc, ℕ}
use Rattle.context.proofs.Parts.{part_length}
use Rattle.context.specs.Holds.{Known, Sized}
use Rattle.context.specs.Entries.{field_code, instance_kind, order_of}
use Rattle.store.specs.Store.{first_at, kind_at, link_at, order_slot, source_at, via_at}
use Rattle.store.specs.declared.Store.{Store}
use Rattle.context.specs.declared.Counts.{Counts}
use Rattle.store.specs.declared.Facts.{Facts}
use Rattle.instancing.specs.Bringing.{bring_all, instance_row, instancing}
use Rattle.limits.specs.Limits.{max_definitions}
use Rattle.limits.specs.Sizes.{max_fields}
use Rattle.standing.specs.Grows.{RowsKept}
use Rattle.judge_instance.proofs.Bringing.{all-facts, all-facts-size, all-link, all-names, all-source, noted-facts, noted-first, noted-kind, noted-link, noted-names, noted-source, noted-via}

module _ (v : Store) (c : Counts) (sized : Sized v c) (room : c.fields < max_fields) (name p q at written : ℕ)
    (few : c.definitions + get_or v.heads (order_slot q) 0 ≤ max_definitions) where
  -- the definitions of the module instanced, and how many
  abbrev pub brought_from : List ℕ
  brought_from = order_of v.orders v.heads q

  abbrev pub brought_count : ℕ
  brought_count = get_or v.heads (order_slot q) 0

  abbrev pub instanced : Store
  instanced = instancing c name p q at written v

  count-length : length brought_from ≡ brought_count
  count-length = part_length v.orders (q * max_definitions) (get_or v.heads (order_slot q) 0)

  abbrev half : Store
  half = bring_all c.modules p name (c.fields + 1) v c.definitions brought_from

  abbrev row_there : Facts
  row_there = instance_row p c.definitions brought_count q at written

  abbrev code : ℕ
  code = field_code c.fields

  -- a code given before is not one of the new ones
  old_apart : (o : ℕ) → Known c.fields c.definitions o → (i : ℕ) → i < length brought_from → o ≡ c.definitions + i → ⊥
  old_apart o k i l e = let m : o < max_definitions = omega (arith, count-length) in omega (arith, k.defined m)

  old-earlier : (o : ℕ) → Known c.fields c.definitions o → o ≡ code → ⊥
  old-earlier o k e = omega (arith, k.below)

  wide : code < length half.facts
  wide = rw (all-facts-size c.modules p name (c.fields + 1) brought_from v c.definitions) (omega (arith, sized.facts))

  pub rows-kept : RowsKept v c instanced
  unfolding instancing
  rows-kept =
      record {
        names = λ o k.
            noted-names c.modules code name row_there half o (old-earlier o k)
            ∙ all-names c.modules p name (c.fields + 1) brought_from v c.definitions o (old_apart o k);
        facts = λ o k.
            noted-facts c.modules code name row_there half o (old-earlier o k)
            ∙ all-facts c.modules p name (c.fields + 1) brought_from v c.definitions o (old_apart o k);
      }

  -- The new definitions: where each comes from, and the field that brought it.
  new_apart : (i : ℕ) → i < length brought_from → c.definitions + i ≡ code → ⊥
  new_apart i l e = omega (arith, count-length)

  facts-wide : c.definitions + length brought_from ≤ length v.facts
  facts-wide = omega (arith, sized.facts, count-length)

  pub new-source : (i : ℕ) → i < length brought_from → source_at instanced.facts (c.definitions + i) ≡ get_or brought_from i 0
  unfolding instancing
  new-source i l =
      ap (λ (f : Facts). f.source) (noted-facts c.modules code name row_there half (c.definitions + i) (new_apart i l))
      ∙ all-source c.modules p name (c.fields + 1) brought_from v c.definitions i l facts-wide

  pub new-link : (i : ℕ) → i < length brought_from → link_at instanced.facts (c.definitions + i) ≡ suc c.fields
  unfolding instancing
  new-link i l =
      ap (λ (f : Facts). f.link) (noted-facts c.modules code name row_there half (c.definitions + i) (new_apart i l))
      ∙ all-link c.modules p name (c.fields + 1) brought_from v c.definitions i l facts-wide ∙ omega arith

  -- What is kept of the field itself.
  pub field-kind : kind_at instanced.facts (field_code c.fields) ≡ instance_kind + p
  unfolding instancing
  field-kind = noted-kind c.modules code name row_there half wide

  pub field-first : first_at instanced.facts (field_code c.fields) ≡ c.definitions
  unfolding instancing
  field-first = noted-first c.modules code name row_there half wide

  pub field-via : via_at instanced.facts (field_code c.fields) ≡ q
  unfolding instancing
  field-via = noted-via c.modules code name row_there half wide

  pub field-source : source_at instanced.facts (field_code c.fields) ≡ at
  unfolding instancing
  field-source = noted-source c.modules code name row_there half wide

  pub field-link : link_at instanced.facts (field_code c.fields) ≡ written
  unfolding instancing
  field-link = noted-link c.modules code name row_there half wide
