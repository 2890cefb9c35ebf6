-- The chains of all definitions after an INSTANCE field: the new ones go through its link.
use mathlib.Core.Bool.{false}
use mathlib.Core.List.{List, [], append-nil}
use mathlib.Core.Logic.{◌⊎◌, inr}
use mathlib.Core.Path.{◌∙◌, ◌≡◌, ap, refl, subst, sym}
use lib.ListN.{get_or-append, get_or, length}
use lib.Seq.{get_or-append-add}
use native.Mathlib.Decide.{dec_lt}
use native.Mathlib.Omega.{arith}
use Prim.Native.Nat.{◌*◌, ◌+◌, ◌-◌, ◌<◌, ◌≤◌, ℕ}
use Rattle.context.proofs.Parts.{part_length}
use Rattle.context.specs.Holds.{Holds, module_no}
use Rattle.context.specs.Entries.{after_definitions, order_of}
use Rattle.store.specs.Store.{order_slot}
use Rattle.store.specs.declared.Store.{Store}
use Rattle.context.specs.declared.Counts.{Counts}
use Rattle.entering.specs.Written.{written_at}
use Rattle.instancing.specs.Bringing.{instancing}
use Rattle.laws.proofs.Invariant.{Good}
use Rattle.laws.proofs.Origins.{Origins}
use Rattle.limits.specs.Limits.{max_definitions}
use Rattle.limits.specs.Sizes.{max_fields}
use Rattle.resolve.proofs.Numbers.{Declares, declarations_of, few-declarations}
use Rattle.rules.specs.Add.{add}
use Rattle.rules.specs.Field.{Field, Substitution, instance}
use Rattle.rules.specs.Instance.{brought_all, source, substitution_for}
use Rattle.rules.specs.Judge.{instance_unknown}
use Rattle.rules.specs.State.{Module, State, meanings}
use Rattle.standing.proofs.Links.{chained-kept}
use Rattle.standing.proofs.Texts.{SameBelow}
use Rattle.standing.specs.Chained.{Chained, Own, Through}
use Rattle.standing.specs.Grows.{Grows}
use Rattle.standing.specs.Shown.{owner_shift}
use Rattle.texts.specs.Text.{Declarations}
use Rattle.worlds.proofs.Fields.{get_d_map}
use Rattle.worlds.proofs.Invariant.{Worlds, length-meanings}
use Rattle.worlds.proofs.Modules.{source_ok}
use Rattle.worlds.proofs.Places.{in-at, once-place}
use Rattle.worlds.specs.Rows.{Row, brought_row, brought_rows, link_of, no_row, rows_after}
use Rattle.judge_instance.proofs.Field.{new-link, new-source}
use Rattle.judge_instance.proofs.Linking.{link-shown}
use Rattle.instance_names.specs.Names.{Agrees}

module _ (v : Store) (c : Counts) (s : State) (holds : Holds v c s) (fs : List Field) (declares : Declares v.facts c fs) (origins : Origins fs s) (good : Good s)
    (room : c.fields < max_fields) (n p m q at k : ℕ) (ss : List Substitution) (earlier : q < c.modules) (found : source s m ≡ module_no s q)
    (few : c.definitions + get_or v.heads (order_slot q) 0 ≤ max_definitions) (small : k < owner_shift) (known : instance_unknown s p (source s m) ss ≡ false)
    (grows : Grows v c (instancing c n p q at (k + owner_shift * c.modules) v) (after_definitions (get_or v.heads (order_slot q) 0) c))
    (rs : List Row) (worlds : Worlds s rs) (file refs refs' : List ℕ) (end : ℕ)
    (agrees : (x : ℕ) → Agrees file refs' (declarations_of fs) end s (written_at k file at x) (substitution_for ss x)) where
  abbrev decls : Declarations
  decls = declarations_of fs

  abbrev f : Field
  f = instance n p m ss

  abbrev gs : List ℕ
  gs = (source s m).definitions

  abbrev v' : Store
  v' = instancing c n p q at (k + owner_shift * c.modules) v

  abbrev c' : Counts
  c' = after_definitions (get_or v.heads (order_slot q) 0) c

  order-there : order_of v.orders v.heads q ≡ gs
  order-there = ap (λ (M : Module). M.definitions) (holds.shown q (omega arith) ∙ sym found)

  brought-length : get_or v.heads (order_slot q) 0 ≡ length gs
  brought-length = sym (part_length v.orders _ (get_or v.heads (order_slot q) 0)) ∙ ap length order-there

  rows-length : length rs ≡ c.definitions
  rows-length = worlds.book.counted ∙ length-meanings s ∙ sym holds.definitions

  new-through : (i : ℕ) → i < length gs → Through v' c' file refs' decls (rows_after s rs f) end (get_or (rows_after s rs f) (c.definitions + i) no_row) (c.definitions + i)
  new-through i l =
      let ok = source_ok (meanings s) worlds.runs s m worlds.ended in
      let g = get_or gs i 0 in
      let there = in-at gs i 0 l in
      let low : g < length rs = subst (λ (n : ℕ). g < n) (sym worlds.book.counted) (ok.known g there) in
      let j : i < length (order_of v.orders v.heads q) = rw order-there l in
      record {
        link = link_of s p m ss;
        from = g;
        field = c.fields;
        below = omega (arith, rows-length);
        there = there;
        number = omega (arith, once-place gs ok.once i 0 l, holds.definitions);
        follows =
            ap (λ (d : ℕ). get_or (rows_after s rs f) (d + i) no_row) (sym rows-length)
            ∙ get_or-append-add rs (brought_rows s rs p m ss) i no_row
            ∙ get_d_map (λ g. brought_row (link_of s p m ss) (get_or rs g no_row)) gs i no_row 0 l
            ∙ ap (brought_row (link_of s p m ss)) (sym (get_or-append rs (brought_rows s rs p m ss) no_row g low));
        source =
            new-source v c holds.sized room n p q at (k + owner_shift * c.modules) few i j
            ∙ ap (λ (l : List ℕ). get_or l i 0) order-there;
        linked = new-link v c holds.sized room n p q at (k + owner_shift * c.modules) few i j;
        shown = link-shown v c s holds fs declares origins good room n p m q at k ss earlier found few small known grows file refs' end agrees;
      }

  -- Every chain is shown after the field.
  pub chained-after : (end₀ : ℕ) → Chained v c file refs decls s rs end₀ → SameBelow end₀ refs refs' → end₀ ≤ end
      → Chained v' c' file refs' decls (add s f) (rows_after s rs f) end
  chained-after end₀ chained same later = record { each = λ D l. go D l (dec_lt D c.definitions) }
    where
      old : (D : ℕ) → D < c.definitions
          → Own v' file refs' decls (add s f) end (get_or (rows_after s rs f) D no_row) D ⊎ Through v' c' file refs' decls (rows_after s rs f) end (get_or (rows_after s rs f) D no_row) D
      old D h =
          subst
          (λ (ds : Declarations). Own v' file refs' ds (add s f) end (get_or (rows_after s rs f) D no_row) D
          ⊎ Through v' c' file refs' ds (rows_after s rs f) end (get_or (rows_after s rs f) D no_row) D)
          (append-nil decls)
          (chained-kept v c s v' c' holds grows file refs refs' decls [] end₀ end
          (few-declarations v.facts c fs declares) same later (add s f) (brought_all s n p (source s m) ss) rs (brought_rows s rs p m ss) refl rows-length chained D h)

      go : (D : ℕ) → D < c.definitions + get_or v.heads (order_slot q) 0 → Dec (D < c.definitions)
          → Own v' file refs' decls (add s f) end (get_or (rows_after s rs f) D no_row) D ⊎ Through v' c' file refs' decls (rows_after s rs f) end (get_or (rows_after s rs f) D no_row) D
      go D l (yes h) = old D h
      go D l (no h) =
          let e : c.definitions + (D - c.definitions) ≡ D = omega arith in
          subst
          (λ (D : ℕ). Own v' file refs' decls (add s f) end (get_or (rows_after s rs f) D no_row) D
          ⊎ Through v' c' file refs' decls (rows_after s rs f) end (get_or (rows_after s rs f) D no_row) D)
          e (inr (new-through (D - c.definitions) (omega (arith, brought-length))))
