-- A module's field and its end leave in the store what the rules add.
use mathlib.Core.List.{[], ◌++◌, ◌∷◌}
use mathlib.Core.Path.{◌∙◌, ◌≡◌, subst, sym}
use lib.ListN.{get_or-append, get_or, length-append}
use lib.Seq.{get_or_at}
use native.Mathlib.Omega.{arith}
use Prim.Native.Nat.{◌+◌, ◌<◌, ◌≤◌, suc, ℕ}
use Rattle.context.proofs.Change.{begun-codes, begun-no-codes, begun-other, begun-same, head-context, head-length, head-order, head-other}
use Rattle.context.proofs.Growing.{known_more, shown-within, state, up_to}
use Rattle.context.specs.Holds.{Holds, Known, Sized}
use Rattle.context.specs.Entries.{after_end, after_field, begun, codes_of, module_at}
use Rattle.store.specs.Store.{context_slot, order_slot}
use Rattle.store.specs.declared.Store.{Store}
use Rattle.store.specs.Updates.{headed}
use Rattle.limits.specs.Limits.{max_definitions, max_modules}
use Rattle.limits.specs.Sizes.{max_fields}
use Rattle.rules.specs.State.{Phase, State, no_module}
use Rattle.theory.specs.Lists.{All}
use Rattle.context.specs.declared.Counts.{Counts}

module _ (v : Store) (c : Counts) (s : State) (holds : Holds v c s) where
  fits : Sized v c
  fits = holds.sized

  -- a module's head
  module _ (name : ℕ) where
    pub hold-begin : (b : ℕ) (p : Phase) → c.fields < max_fields
        → Holds (begun v c.modules name) (after_field c)
        (state (suc s.fields) b s.declarations p s.ended (record { name = name; context = []; definitions = [] }) s.definitions)
    hold-begin b p l = record {
      fields = omega (arith, holds.fields);
      declarations = holds.declarations;
      modules = holds.modules;
      definitions = holds.definitions;
      shown = shown-within v c s holds (begun v c.modules name) (record { name = name; context = []; definitions = [] })
          (λ m h. begun-other v c.modules name fits.modules m h) (begun-same v c.modules name fits.modules fits.heads);
      described = holds.described;
      linked = holds.linked;
      known = up_to (λ m. All (Known (c.fields + 1) c.definitions) (codes_of (begun v c.modules name) m)) c.modules
          (λ m h. subst (All (Known (c.fields + 1) c.definitions)) (sym (begun-codes v c.modules name fits.modules m h))
          (known_more c.fields c.definitions (c.fields + 1) c.definitions (omega arith) (omega arith) (codes_of v m) (holds.known m (omega arith))))
          (subst (All (Known (c.fields + 1) c.definitions)) (sym (begun-no-codes v c.modules name fits.modules fits.heads)) tt);
      sized = record {
        names = fits.names;
        facts = fits.facts;
        contexts = fits.contexts;
        orders = fits.orders;
        heads = head-length v.heads c.modules name ∙ fits.heads;
        declared = fits.declared;
        modules = fits.modules;
        definitions = fits.definitions;
        fields = omega arith;
        context_room = up_to (λ m. get_or (headed v.heads c.modules name) (context_slot m) 0 ≤ max_definitions + (c.fields + 1) + c.definitions) c.modules
            (λ m h. let within = fits.context_room m (omega arith) in rw (head-other v.heads c.modules name (context_slot m) (λ (e : context_slot m ≡ c.modules). omega (arith, fits.modules)) (λ (e : context_slot m ≡ context_slot c.modules). omega arith) (λ (e : context_slot m ≡ order_slot c.modules). omega arith)) (omega arith))
            (rw (head-context v.heads c.modules name fits.modules fits.heads) (omega arith));
        order_room = up_to (λ m. get_or (headed v.heads c.modules name) (order_slot m) 0 ≤ c.definitions) c.modules
            (λ m h. let within = fits.order_room m (omega arith) in rw (head-other v.heads c.modules name (order_slot m) (λ (e : order_slot m ≡ c.modules). omega (arith, fits.modules)) (λ (e : order_slot m ≡ context_slot c.modules). omega (arith, fits.modules)) (λ (e : order_slot m ≡ order_slot c.modules). omega arith)) within)
            (rw (head-order v.heads c.modules name fits.modules fits.heads) (omega arith));
      };
    }

  pub hold-end : (b : ℕ) (p : Phase) → c.fields < max_fields → c.modules < max_modules
      → Holds (begun v (c.modules + 1) 0) (after_end c)
      (state (suc s.fields) b s.declarations p (s.ended ++ (s.current ∷ [])) no_module s.definitions)
  hold-end b p l few = record {
    fields = omega (arith, holds.fields);
    declarations = holds.declarations;
    modules = rw length-append (omega (arith, holds.modules));
    definitions = holds.definitions;
    shown = up_to (λ m. module_at w m ≡ get_or ((s.ended ++ (s.current ∷ [])) ++ (no_module ∷ [])) m no_module) (c.modules + 1)
        (λ m h. begun-other v (c.modules + 1) 0 (omega arith) m h ∙ holds.shown m (omega arith)
        ∙ sym (get_or-append (s.ended ++ (s.current ∷ [])) (no_module ∷ []) no_module m (rw length-append (omega (arith, holds.modules)))))
        (begun-same v (c.modules + 1) 0 (omega arith) fits.heads
        ∙ sym (get_or_at (s.ended ++ (s.current ∷ [])) no_module [] no_module (c.modules + 1) (rw length-append (omega (arith, holds.modules)))));
    described = holds.described;
    linked = holds.linked;
    known = up_to (λ m. All (Known (c.fields + 1) c.definitions) (codes_of w m)) (c.modules + 1)
        (λ m h. subst (All (Known (c.fields + 1) c.definitions)) (sym (begun-codes v (c.modules + 1) 0 (omega arith) m h))
        (known_more c.fields c.definitions (c.fields + 1) c.definitions (omega arith) (omega arith) (codes_of v m) (holds.known m (omega arith))))
        (subst (All (Known (c.fields + 1) c.definitions)) (sym (begun-no-codes v (c.modules + 1) 0 (omega arith) fits.heads)) tt);
    sized = record {
      names = fits.names;
      facts = fits.facts;
      contexts = fits.contexts;
      orders = fits.orders;
      heads = head-length v.heads (c.modules + 1) 0 ∙ fits.heads;
      declared = fits.declared;
      modules = omega arith;
      definitions = fits.definitions;
      fields = omega arith;
      context_room = up_to (λ m. get_or (headed v.heads (c.modules + 1) 0) (context_slot m) 0 ≤ max_definitions + (c.fields + 1) + c.definitions) (c.modules + 1)
          (λ m h. let within = fits.context_room m (omega arith) in rw (head-other v.heads (c.modules + 1) 0 (context_slot m) (λ (e : context_slot m ≡ c.modules + 1). omega arith) (λ (e : context_slot m ≡ context_slot (c.modules + 1)). omega arith) (λ (e : context_slot m ≡ order_slot (c.modules + 1)). omega arith)) (omega arith))
          (rw (head-context v.heads (c.modules + 1) 0 (omega arith) fits.heads) (omega arith));
      order_room = up_to (λ m. get_or (headed v.heads (c.modules + 1) 0) (order_slot m) 0 ≤ c.definitions) (c.modules + 1)
          (λ m h. let within = fits.order_room m (omega arith) in rw (head-other v.heads (c.modules + 1) 0 (order_slot m) (λ (e : order_slot m ≡ c.modules + 1). omega arith) (λ (e : order_slot m ≡ context_slot (c.modules + 1)). omega arith) (λ (e : order_slot m ≡ order_slot (c.modules + 1)). omega arith)) within)
          (rw (head-order v.heads (c.modules + 1) 0 (omega arith) fits.heads) (omega arith));
    };
  }
    where
      w : Store
      w = begun v (c.modules + 1) 0
