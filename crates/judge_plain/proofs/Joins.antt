-- EXTENDS, a name at a time.
use borrow.Author.Tests.{ltb-true}
use mathlib.Core.Bool.{Bool, ◌||◌, false, not, true}
use mathlib.Core.List.{List, [], ◌∷◌}
use mathlib.Core.Path.{◌∙◌, ◌≡◌, ap, refl, subst, subst⁻¹, sym}
use lib.Dec.{ltb}
use lib.ListN.{get_or, length, length-set, set}
use lib.Seq.{get_or-set_other, get_or-set_same}
use native.Mathlib.Omega.{arith}
use Prim.Native.Nat.{◌*◌, ◌+◌, ◌-◌, ◌<◌, ◌≤◌, suc, zero, ℕ}
use Rattle.agree.specs.Parts.{names_at}
use Rattle.context.proofs.Extends.{extendable, extended_from, hold-extend, source-law}
use Rattle.context.proofs.Growing.{ended-no}
use Rattle.context.specs.Holds.{Holds}
use Rattle.context.specs.Joining.{Extendable, Extended, Marked, module_joined}
use Rattle.context.specs.Parts.{part, place_of}
use Rattle.context.specs.Entries.{codes_of, order_of}
use Rattle.store.specs.Store.{context_slot, order_slot}
use Rattle.store.specs.declared.Store.{Store}
use Rattle.store.specs.Updates.{with_contexts, with_heads, with_orders}
use Rattle.context.specs.declared.Counts.{Counts}
use Rattle.judge_plain.proofs.Lifted.{ended-law}
use Rattle.judge_plain.specs.Extending.{Framed, Joinable, Joined, with_open}
use Rattle.limits.specs.Limits.{max_definitions}
use Rattle.limits.specs.Sizes.{context_length}
use Rattle.rules.specs.Add.{extended_module}
use Rattle.rules.specs.Instance.{source}
use Rattle.rules.specs.Judge.{not_ended}
use Rattle.rules.specs.State.{Module, State, module_named}
use Rattle.theory.proofs.Lists.{or-false}
use Rattle.theory.specs.Lists.{All, any, is_some}
use Rattle.std.specs.List.{list_any, range_with_len}
use Rattle.tokens.specs.Token.{number_at}

-- names by position
pub names-turn : (file : List ℕ) (pos left rest : ℕ) → left ≡ suc rest → names_at file pos left ≡ number_at file pos ∷ names_at file (pos + 2) rest
names-turn file pos left rest d = rw d refl

names-step : (file : List ℕ) (at i count : ℕ) → i < count
    → names_at file (at + 2 * i) (count - i) ≡ number_at file (at + 2 * i) ∷ names_at file (at + 2 * (i + 1)) (count - (i + 1))
names-step file at i count h =
    let p : at + 2 * (i + 1) ≡ at + 2 * i + 2 = omega arith in
    rw p (names-turn file (at + 2 * i) (count - i) (count - (i + 1)) (omega arith))

names-end : (file : List ℕ) (pos i count : ℕ) → count ≤ i → names_at file pos (count - i) ≡ []
names-end file pos i count h = let d : count - i ≡ 0 = omega arith in rw d refl

-- 7: a search over the names' numbers is one over the names
any-from : (t : ℕ → Bool) (file : List ℕ) (at i n : ℕ) → list_any (λ j. t (number_at file (at + 2 * j))) (range_with_len i n) ≡ any t (names_at file (at + 2 * i) n)
any-from t file at i zero = refl
any-from t file at i (suc n) =
    let p : at + 2 * (i + 1) ≡ at + 2 * i + 2 = omega arith in
    ap (λ (b : Bool). t (number_at file (at + 2 * i)) || b) (any-from t file at (i + 1) n ∙ ap (λ (k : ℕ). any t (names_at file k n)) p)

pub any-names : (t : ℕ → Bool) (file : List ℕ) (at n : ℕ) → list_any (λ j. t (number_at file (at + 2 * j))) (range_with_len 0 n) ≡ any t (names_at file at n)
any-names t file at n = let p : at + 2 * 0 ≡ at = omega arith in any-from t file at 0 n ∙ ap (λ (k : ℕ). any t (names_at file k n)) p

-- joining

-- a name of a module that is ended finds it
module _ (v : Store) (c : Counts) (s : State) (holds : Holds v c s) (n q : ℕ) (found : q ≡ place_of n (part v.heads 0 c.modules)) where
  pub found-earlier : not_ended s n ≡ false → q < c.modules
  found-earlier e = ltb-true q c.modules (ap (λ (i : ℕ). ltb i c.modules) found ∙ ended-law v c s holds n ∙ some_of (is_some (module_named s n)) e)
    where
      some_of : (b : Bool) → not b ≡ false → b ≡ true
      some_of true z = refl
      some_of false z = sym z

  -- one module is joined
  module _ (v' : Store) (marks tally : List ℕ) (x : Extended v v' marks tally c.modules q) (earlier : q < c.modules)
      (marks_size : length marks ≡ max_definitions + c.fields) (tally_size : length tally ≡ c.definitions) where
    pub join_one : Holds v' c (with_open s (module_joined s.current (source s n)))
    join_one =
        subst (λ (N : Module). Holds v' c (with_open s (module_joined s.current N))) (sym (source-law v c s holds n q found earlier))
        (hold-extend v v' c s holds q earlier marks tally x marks_size tally_size)

    slot-context : get_or v'.heads (context_slot c.modules) 0 ≡ x.a
    slot-context =
        ap (λ (u : Store). get_or u.heads (context_slot c.modules) 0) x.frame
        ∙ get_or-set_other (set v.heads (context_slot c.modules) x.a) (order_slot c.modules) (context_slot c.modules) x.b 0 (λ (z : context_slot c.modules ≡ order_slot c.modules). omega arith)
        ∙ get_or-set_same v.heads (context_slot c.modules) x.a 0 (omega (arith, holds.sized.heads, holds.sized.modules))

    slot-order : get_or v'.heads (order_slot c.modules) 0 ≡ x.b
    slot-order =
        let l = length-set v.heads (context_slot c.modules) x.a in
        ap (λ (u : Store). get_or u.heads (order_slot c.modules) 0) x.frame
        ∙ get_or-set_same (set v.heads (context_slot c.modules) x.a) (order_slot c.modules) x.b 0 (omega (arith, holds.sized.heads, holds.sized.modules))

    pub still_marked : Marked marks (codes_of v' c.modules)
    still_marked = subst⁻¹ (λ (i : ℕ). Marked marks (part v'.contexts (c.modules * context_length) i)) slot-context x.context.marked

    pub still-tallied : Marked tally (order_of v'.orders v'.heads c.modules)
    still-tallied = subst⁻¹ (λ (i : ℕ). Marked tally (part v'.orders (c.modules * max_definitions) i)) slot-order x.order.marked

-- what the loop keeps: some names are left to join
pub record Joining (v₀ v : Store) (marks tally : List ℕ) (c : Counts) (all left : List ℕ) : Type 0 where
  pub now : Joinable v marks tally c left
  pub shows : (s : State) → Holds v₀ c s → (M : Module) × Holds v c (with_open s M) × (extended_from s left M ≡ extended_module s all)
  pub frame : Framed v₀ v

pub join-start : (v : Store) (marks tally : List ℕ) (c : Counts) (file : List ℕ) (at count : ℕ) → Joinable v marks tally c (names_at file at count)
    → Joining v v marks tally c (names_at file at count) (names_at file (at + 2 * 0) (count - 0))
join-start v marks tally c file at count j =
    let p : at + 2 * 0 ≡ at = omega arith in
    let d : count - 0 ≡ count = omega arith in
    rw (p, d) (record { now = j; shows = λ s h. (s.current, same-state s h, refl); frame = refl })
  where
    same-state : (s : State) → Holds v c s → Holds v c (with_open s s.current)
    same-state s h = h

pub join-done : (v₀ v : Store) (marks tally : List ℕ) (c : Counts) (file all : List ℕ) (at i count : ℕ)
    → Joining v₀ v marks tally c all (names_at file (at + 2 * i) (count - i)) → count ≤ i → Joined v₀ v c all
join-done v₀ v marks tally c file all at i count j h = record {
  shows = λ s k.
      let m = j.shows s k in
      let e : m.0 ≡ extended_module s all = sym (ap (λ (l : List ℕ). extended_from s l m.0) (names-end file (at + 2 * i) i count h)) ∙ m.2 in
      subst (λ (M : Module). Holds v c (with_open s M)) e m.1;
  frame = j.frame;
}

-- what was written before is written over
framed-next : (u v w : Store) (l : List ℕ) → Framed u v → w ≡ with_heads (with_orders (with_contexts v w.contexts) w.orders) l → Framed u w
framed-next u v w l e f =
    f ∙ ap (λ (x : Store). with_heads (with_orders (with_contexts x w.contexts) w.orders) l) e
    ∙ ap (λ (h : List ℕ). with_heads (with_orders (with_contexts u w.contexts) w.orders) h) (sym (ap (λ (x : Store). x.heads) f))

module _ (v₀ v : Store) (marks tally : List ℕ) (c : Counts) (file all : List ℕ) (at i count n q : ℕ)
    (j : Joining v₀ v marks tally c all (names_at file (at + 2 * i) (count - i))) (more : i < count) (read : n ≡ number_at file (at + 2 * i)) (found : q ≡ place_of n (part v.heads 0 c.modules)) where
  split : names_at file (at + 2 * i) (count - i) ≡ n ∷ names_at file (at + 2 * (i + 1)) (count - (i + 1))
  split = names-step file at i count more ∙ ap (λ (k : ℕ). k ∷ names_at file (at + 2 * (i + 1)) (count - (i + 1))) (sym read)

  ended : (not_ended j.now.s n ≡ false) × (any (not_ended j.now.s) (names_at file (at + 2 * (i + 1)) (count - (i + 1))) ≡ false)
  ended = or-false (not_ended j.now.s n) _ (sym (ap (any (not_ended j.now.s)) split) ∙ j.now.found)

  pub join-earlier : q < c.modules
  join-earlier = found-earlier v c j.now.s j.now.holds n q found ended.0

  pub join-ready : Extendable v marks tally c.modules q
  join-ready =
      extendable v c j.now.s j.now.holds q join-earlier marks tally j.now.marks_size j.now.tally_size
      j.now.marked j.now.tallied (j.now.listed q join-earlier)

  module _ (v' : Store) (marks' tally' : List ℕ) (x : Extended v v' marks' tally' c.modules q) (marks_size : length marks' ≡ length marks) (tally_size : length tally' ≡ length tally) where
    marks-now : length marks' ≡ max_definitions + c.fields
    marks-now = marks_size ∙ j.now.marks_size

    tally-now : length tally' ≡ c.definitions
    tally-now = tally_size ∙ j.now.tally_size

    joined-one : (s : State) → Holds v c s → Holds v' c (with_open s (module_joined s.current (source s n)))
    joined-one s h = join_one v c s h n q found v' marks' tally' x join-earlier marks-now tally-now

    pub join-turn : Joining v₀ v' marks' tally' c all (names_at file (at + 2 * (i + 1)) (count - (i + 1)))
    join-turn =
        let s = j.now.s in
        record {
          now = record {
            s = with_open s (module_joined s.current (source s n));
            holds = joined-one s j.now.holds;
            listed = λ q l. subst⁻¹ (λ (M : Module). All (λ g. g < c.definitions) M.definitions)
                (ended-no v c s j.now.holds (module_joined s.current (source s n)) q l) (j.now.listed q l);
            found = ended.1;
            marked = still_marked v c s j.now.holds n q found v' marks' tally' x join-earlier marks-now tally-now;
            tallied = still-tallied v c s j.now.holds n q found v' marks' tally' x join-earlier marks-now tally-now;
            marks_size = marks-now;
            tally_size = tally-now;
          };
          shows = λ s h.
              let m = j.shows s h in
              (module_joined m.0 (source s n), joined-one (with_open s m.0) m.1, sym (ap (λ (l : List ℕ). extended_from s l m.0) split) ∙ m.2);
          frame = framed-next v₀ v v' _ j.frame x.frame;
        }
