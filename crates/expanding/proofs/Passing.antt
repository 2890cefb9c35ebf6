-- One step of an expansion: the calls of the highest definition that is called, replaced by its template.
use mathlib.Core.Bool.{Bool, ◌||◌, cond, false, true}
use mathlib.Core.List.{List, [], ◌∷◌}
use mathlib.Core.Logic.{◌⊎◌, inl, inr}
use mathlib.Core.Option.{some}
use mathlib.Core.Path.{◌∙◌, ◌≡◌, refl, sym}
use borrow.Author.Tests.{eqb-false, leb-false, lt-leb, lt-ltb, ne_eqb}
use lib.Dec.{eqb, leb, ltb}
use lib.ListN.{length, replicate}
use native.Mathlib.Decide.{dec_lt}
use native.Mathlib.Omega.{arith}
use Prim.Native.Nat.{◌<◌, ◌≤◌, max, suc, ℕ}
use Rattle.limits.specs.Limits.{max_definitions}
use Rattle.laws.proofs.Formats.{some-injective}
use Rattle.laws.proofs.Invariant.{arity-known}
use Rattle.laws.proofs.Replacing.{known-below}
use Rattle.laws.proofs.Sound.{length-templates}
use Rattle.rules.specs.State.{State, params_of, templates_of}
use Rattle.store.specs.declared.Store.{Store}
use Rattle.strings.proofs.Reading.{stands}
use Rattle.strings.proofs.Standing.{highest-there}
use Rattle.strings.specs.Read.{far, highest_call, string_at}
use Rattle.std.specs.Prelude.{None, Option, Some}
use Rattle.std.proofs.lemmas.Option.{none-some}
use Rattle.symbols.proofs.Sizes.{by_two}
use Rattle.symbols.specs.Spell.{max_params, spell}
use Rattle.symbols.specs.Symbol.{Symbol, begin, call, calls, code, end, name, number, par, size, var, wide}
use Rattle.symbols.specs.Weight.{weight}
use Rattle.theory.proofs.Lists.{never}
use Rattle.theory.specs.Expand.{arities_of}
use Rattle.theory.specs.Lists.{any}
use Rattle.theory.specs.Term.{Term, WellFormed}
use Rattle.unfolding.proofs.SameLaws.{same-trans, too-heavy, too_long}
use Rattle.unfolding.proofs.SpellAgree.{calls-none}
use Rattle.unfolding.specs.CalleeTerm.{sense_of}
use Rattle.spelling.specs.Strings.{shapes_of}
use Rattle.rewriting.specs.Rewritten.{Posed, Replaced, Rewritten, Task}
use Rattle.templates.specs.Made.{MadeOf, TemplateMade, TemplateTerm}
use Rattle.templates.specs.Taking.{work_bytes}
use Rattle.templates.specs.Told.{Told}
use Rattle.worlds.proofs.Uses.{uses-all}
use Rattle.expanding.specs.Held.{CallsReplaced, Held, Long, Replaces}

-- Of tests on calls: what two do not find, a third does not
or-none : (a b : Bool) → (a || b) ≡ false → (a ≡ false) × (b ≡ false)
or-none true b e = never e
or-none false b e = (refl, e)

none_or : (a b : Bool) → a ≡ false → b ≡ false → (a || b) ≡ false
none_or a b e f = rw (e, f) refl

module _ (q q₁ q₂ : ℕ → Bool) (covers : (n : ℕ) → q₁ n ≡ false → q₂ n ≡ false → q n ≡ false) where
  one-cover : (g : Symbol) → calls q₁ g ≡ false → calls q₂ g ≡ false → calls q g ≡ false
  one-cover (par i) a b = refl
  one-cover (var j) a b = refl
  one-cover (name x k) a b = refl
  one-cover (code c) a b = refl
  one-cover (number v) a b = refl
  one-cover (call n) a b = covers n a b
  one-cover begin a b = refl
  one-cover end a b = refl

  pub calls-cover : (gs : List Symbol) → any (calls q₁) gs ≡ false → any (calls q₂) gs ≡ false → any (calls q) gs ≡ false
  calls-cover [] a b = refl
  calls-cover (g ∷ gs) a b =
      let x = or-none (calls q₁ g) (any (calls q₁) gs) a in
      let y = or-none (calls q₂ g) (any (calls q₂) gs) b in
      none_or (calls q g) (any (calls q) gs) (one-cover g x.0 y.0) (calls-cover gs x.1 y.1)

-- what is not called from d on
none_from : (d : ℕ) → ((n : ℕ) → leb (suc d) n ≡ false → eqb d n ≡ false → leb d n ≡ false)
none_from d n a b = lt-leb d n (let l = leb-false (suc d) n a in let k = eqb-false d n b in omega arith)

later : (gs : List Symbol) (x d : ℕ) → max x (highest_call gs) ≤ d → highest_call gs ≤ d
later gs x d h = omega arith

pub above : (gs : List Symbol) (d : ℕ) → highest_call gs ≤ d → any (calls (λ n. leb max_definitions n)) gs ≡ false → any (calls (λ n. leb d n)) gs ≡ false
above [] d h e = refl
above (par i ∷ gs) d h e = above gs d (later gs 0 d h) e
above (var j ∷ gs) d h e = above gs d (later gs 0 d h) e
above (name x k ∷ gs) d h e = above gs d (later gs 0 d h) e
above (code c ∷ gs) d h e = above gs d (later gs 0 d h) e
above (number v ∷ gs) d h e = above gs d (later gs 0 d h) e
above (call n ∷ gs) d h e =
    let x = or-none (leb max_definitions n) (any (calls (λ n. leb max_definitions n)) gs) e in
    let l : n < max_definitions = leb-false max_definitions n x.0 in
    let z : max (suc n) (highest_call gs) ≤ d = rw (lt-ltb n max_definitions l) at h in
    none_or (leb d n) (any (calls (λ n. leb d n)) gs) (lt-leb d n (omega arith)) (above gs d (later gs (suc n) d z) x.1)
above (begin ∷ gs) d h e = above gs d (later gs 0 d h) e
above (end ∷ gs) d h e = above gs d (later gs 0 d h) e

first : (gs : List Symbol) (x d : ℕ) → x ≤ d → highest_call gs ≤ d → max x (highest_call gs) ≤ d
first gs x d a b = omega arith

pub highest-below : (gs : List Symbol) (d : ℕ) → any (calls (λ n. leb d n)) gs ≡ false → highest_call gs ≤ d
highest-below [] d e = omega arith
highest-below (par i ∷ gs) d e = first gs 0 d (omega arith) (highest-below gs d e)
highest-below (var j ∷ gs) d e = first gs 0 d (omega arith) (highest-below gs d e)
highest-below (name x k ∷ gs) d e = first gs 0 d (omega arith) (highest-below gs d e)
highest-below (code c ∷ gs) d e = first gs 0 d (omega arith) (highest-below gs d e)
highest-below (number v ∷ gs) d e = first gs 0 d (omega arith) (highest-below gs d e)
highest-below (call n ∷ gs) d e =
    let x = or-none (leb d n) (any (calls (λ n. leb d n)) gs) e in
    let l : n < d = leb-false d n x.0 in
    first gs (cond (ltb n max_definitions) (suc n) 0) d (small (ltb n max_definitions) l) (highest-below gs d x.1)
  where
    small : (b : Bool) → n < d → cond b (suc n) 0 ≤ d
    small true l = omega arith
    small false l = omega arith
highest-below (begin ∷ gs) d e = first gs 0 d (omega arith) (highest-below gs d e)
highest-below (end ∷ gs) d e = first gs 0 d (omega arith) (highest-below gs d e)

-- a well formed term calls definitions only
module _ (s : State) (σ : ℕ → ℕ) (p : ℕ) (t : Term) (w : WellFormed (arities_of (templates_of s)) p 0 t) where
  pub formed-none : (q : ℕ → Bool) → ((g : ℕ) → g < length s.definitions → q g ≡ false) → any (calls q) (spell σ t) ≡ false
  formed-none q f =
      calls-none q σ t 0
      (uses-all (λ n. q n ≡ false) (arities_of (templates_of s)) p t
      (λ g m e. f g (omega (arith, known-below (templates_of s) g m e, length-templates [] s.definitions))) w)

  pub called-known : (d : ℕ) → any (calls (eqb d)) (spell σ t) ≡ true → d < length s.definitions
  called-known d e = go (dec_lt d (length s.definitions))
    where
      go : Dec (d < length s.definitions) → d < length s.definitions
      go (yes l) = l
      go (no l) = never (sym e ∙ formed-none (eqb d) (λ g k. ne_eqb d g (λ (z : d ≡ g). l (omega arith))))

module _ (file refs : List ℕ) (v : Store) (declared : List ℕ) (n : ℕ) (x : Told file refs v declared n) (shapes : List ℕ) (p : ℕ) (t : Term) (a : List ℕ) (len : ℕ)
    (h : Held x.state (shapes_of shapes) p t a len) where
  abbrev σ : ℕ → ℕ
  σ = shapes_of shapes

  abbrev s : State
  s = x.state

  few : length s.definitions ≤ max_definitions
  few = omega (arith, x.ready.few, x.ready.counted)

  pub held_low : any (calls (λ n. leb max_definitions n)) (spell σ h.term) ≡ false
  held_low = formed-none s σ p h.term h.stands.formed (λ n. leb max_definitions n) (λ g l. lt-leb max_definitions g (omega (arith, few)))

  pub held-near : far (spell σ h.term) ≡ false
  held-near = formed-none s σ p h.term h.stands.formed (λ n. leb 1280 n) (λ g l. lt-leb 1280 g (omega (arith, few)))

  -- the string that the code reads
  pub as_read : len ≤ length a → string_at a 0 len ≡ spell σ h.term
  as_read l = stands a 0 (spell σ h.term) len h.spelt l held-near

  -- so many parameters at most
  arities-few : (k m : ℕ) → arities_of (templates_of s) k ≡ some m → m ≤ max_params
  arities-few k m e =
      let l : k < length s.definitions = omega (arith, known-below (templates_of s) k m e, length-templates [] s.definitions) in
      let q : params_of s k ≡ m = some-injective (sym (arity-known s x.ready.sound k l) ∙ e) in
      omega (arith, x.ready.params k l)

  long-held : Long s p h.term → Long s p t
  long-held l = rw (h.same.as_sizes (replicate p 2) []) l

  -- the symbols without brackets take too many bytes
  pub long-heavy : len ≤ length a → 65535 < weight by_two (string_at a 0 len) → Long s p t
  long-heavy l e = long-held (too-heavy (sense_of s σ) p h.term h.stands (rw (as_read l) at e))

  module _ (d : ℕ) (highest : highest_call (spell σ h.term) ≡ suc d) where
    there : (any (calls (eqb d)) (spell σ h.term) ≡ true) × (d < max_definitions)
    there = highest-there (spell σ h.term) d highest

    pub called-below : d < x.counts.definitions
    called-below = omega (arith, x.ready.counted, called-known s σ p h.term h.stands.formed d there.0)

    -- the template does not fit
    pub long-template : (work : List ℕ) (r : Option ℕ) → MadeOf s d σ work r → r ≡ None → Long s p t
    long-template work r made e = long-held (made.no e p h.term h.stands there.0)

    module _ (work : List ℕ) (tlen : ℕ) (y : TemplateTerm s d σ work tlen) (inside : tlen ≤ length work) (after : List ℕ) (r : Option ℕ)
        (rewritten : Rewritten a len d work tlen shapes after r) (big : length a ≡ work_bytes) where
      task : Task
      task = record { sense = sense_of s σ; params = p; term = h.term; arity = params_of s d; text = y.term }

      posed : Posed a len d work tlen shapes task
      unfolding task
      posed =
          record {
            templated =
                record {
                  shaped = λ k. refl;
                  few = arities-few;
                  callee = y.callee;
                  fresh = y.fresh;
                  near = y.near;
                  spelt = y.spelt;
                  inside = inside;
                };
            stands = h.stands;
            near = held-near;
            spelt = h.spelt;
          }

      new : Replaced d task after r
      new = rewritten.replaced task posed

      new-low : any (calls (λ n. leb (suc d) n)) (spell σ new.term) ≡ false
      unfolding task
      new-low =
          new.others (λ n. leb (suc d) n) (above (spell σ h.term) (suc d) (omega arith) held_low)
          (calls-cover (λ n. leb (suc d) n) (λ n. leb d n) (λ n. leb d n) (λ n e e'. lt-leb (suc d) n (let l = leb-false d n e in omega arith)) (spell σ y.term) y.low y.low)

      pub replaced-here : Replaces s σ p t d after r
      unfolding task
      replaced-here =
          record {
            yes = λ q e.
                let z = new.yes q e in
                record {
                  held = record { term = new.term; same = same-trans (sense_of s σ) t h.term new.term h.same new.same; stands = new.stands; spelt = z.0 };
                  below =
                      highest-below (spell σ new.term) d
                      (calls-cover (λ n. leb d n) (λ n. leb (suc d) n) (eqb d) (none_from d) (spell σ new.term) new-low z.1);
                };
            no = λ e. long-held (rw (new.same.as_sizes (replicate p 2) []) (too_long (sense_of s σ) p new.term new.stands (over (new.no e))));
          }
        where
          over : (length after < size (spell σ new.term)) ⊎ (wide (spell σ new.term) ≡ true)
              → (131070 < size (spell σ new.term)) ⊎ (wide (spell σ new.term) ≡ true)
          over (inl l) = inl (omega (arith, rewritten.long))
          over (inr w) = inr w

-- What one step promises.
pub step-heavy : (file refs : List ℕ) (v : Store) (declared : List ℕ) (n : ℕ) (shapes : List ℕ) (d : ℕ) (before : List ℕ) (len : ℕ) → len ≤ length before → (w : ℕ)
    → w ≡ weight by_two (string_at before 0 len) → 65535 < w
    → CallsReplaced file refs v declared n shapes d before len before None
step-heavy file refs v declared n shapes d before len inside w weighed heavy =
    record {
      within = λ q z. absurd (none-some q z);
      replaced = λ x fit right p t h highest.
          record { yes = λ q z. absurd (none-some q z); no = λ z. long-heavy file refs v declared n x shapes p t before len h inside (omega arith) };
    }

module _ (file refs : List ℕ) (v : Store) (declared : List ℕ) (n : ℕ) (shapes : List ℕ) (d : ℕ) (before : List ℕ) (len : ℕ) (work : List ℕ) (y : Option ℕ)
    (made : TemplateMade file refs v declared n d shapes work y) where
  pub step-no-template : y ≡ None → (r : Option ℕ) → r ≡ None → CallsReplaced file refs v declared n shapes d before len before r
  step-no-template e r missed =
      rw missed
      (record {
        within = λ q z. absurd (none-some q z);
        replaced = λ x fit right p t h highest.
            record {
              yes = λ q z. absurd (none-some q z);
              no = λ z.
                  long-template file refs v declared n x shapes p t before len h d highest work y
                  (made.made x (called-below file refs v declared n x shapes p t before len h d highest) fit right) e;
            };
      })

  pub step-rewritten : (tlen : ℕ) → y ≡ Some tlen → (after : List ℕ) (r : Option ℕ) → length before ≡ work_bytes → Rewritten before len d work tlen shapes after r
      → CallsReplaced file refs v declared n shapes d before len after r
  step-rewritten tlen e after r big rewritten =
      record {
        within = rewritten.within;
        replaced = λ x fit right p t h highest.
            replaced-here file refs v declared n x shapes p t before len h d highest work tlen
            ((made.made x (called-below file refs v declared n x shapes p t before len h d highest) fit right).yes tlen e) (omega (arith, made.long, made.within tlen e)) after r
            rewritten big;
      }
