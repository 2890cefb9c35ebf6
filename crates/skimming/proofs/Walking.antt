-- The walk: one lemma for each way through its code, with the facts that the code has there as premises.
use borrow.Author.Tests.{leb-true}
use mathlib.Core.Bool.{Bool, and-true, cond, false, or_assoc, or_comm, or-false, true, ◌||◌}
use mathlib.Core.List.{List}
use mathlib.Core.Path.{◌∙◌, ◌≡◌, ap, refl, subst, sym}
use Prim.Native.Nat.{ℕ, zero, suc, ◌+◌, ◌-◌, ◌<◌, ◌≤◌}
use native.Mathlib.Omega.{arith}
use lib.Dec.{eqb, leb}
use lib.ListN.{get_or, length}
use Rattle.std.specs.Prelude.{Option, None, Some}
use Rattle.tokens.proofs.Tags.{reads-code, reads-no-code, reads-parameter}
use Rattle.limits.specs.Limits.{max_arity}
use Rattle.theory.specs.Tree.{⟨⟩}
use Rattle.rows.specs.Rows.{arity_of, no_code}
use Rattle.rows.specs.Numbers.{arity_in, binder_in, row_number}
use Rattle.rows.proofs.Numbers.{row-arity, row-binder}
use Rattle.tokens.specs.Expr.{Found, Founds, after, expr_at, found, founds, none, several}
use Rattle.tokens.specs.Fold.{Algebra, fold, under_of}
use Rattle.tokens.specs.Limit.{counts_kept}
use Rattle.tokens.specs.Token.{arguments_of, token_at, width_of}
use Rattle.tokens.specs.declared.Token.{Token}
use Rattle.tokens.specs.declared.Token.TheVariants.{Parameter, Bound, Name, InstanceOperator, BuiltIn, Literal}
use Rattle.tokens.proofs.Folding.{Scoped, scoped_at}
use Rattle.tokens.proofs.Places.{written_count}
use Rattle.tokens.proofs.Reading.{several-more}
use Rattle.agree.specs.Folds.{binds_of, searching}
use Rattle.resolve.specs.Look.{look_in}
use Rattle.resolve.specs.Walk.{inside, miscounted_at, miscounted_in, unknown_at, unknown_in, word_count}
use Rattle.resolve.specs.declared.Look.{Look}
use Rattle.resolve.specs.declared.Looked.{Looked}
use Rattle.resolve.proofs.Walking.{binds-none, binds-one}
use Rattle.skimming.specs.Kept.{KeptWorth, KeptWorths}
use Rattle.skimming.specs.Skims.{AllSkimmed, Heads, Leaf, Passed, Skimmed, Skims, SkimsAll, Steps, joined}
use Rattle.skimming.specs.declared.Step.{Step}
use Rattle.skimming.proofs.Keeping.{any-kept, any-worth, kept-count, kept-limit, kept-lost, kept-nothing, kept-token, kepts-lost, kepts-more, kepts-none}
use Rattle.store.specs.declared.Facts.{Facts}

-- the variables bound in the last argument of a built-in of row h
module _ (k c h b : ℕ) (eh : h ≡ row_number c) (e : b ≡ binder_in h) where
  pub in-plain : b ≡ 0 → k ≡ inside (BuiltIn c) k
  in-plain z = binds-none (BuiltIn c) b k (row-binder c h eh b e) z

  pub in-binder : (b ≡ 0 → ⊥) → k + 1 ≡ inside (BuiltIn c) k
  in-binder z = binds-one (BuiltIn c) b k (row-binder c h eh b e) z

module _ (t : Token) (k : ℕ) where
  pub in-parameter : (i : ℕ) → t ≡ Parameter i → k ≡ inside t k
  in-parameter i h = rw h refl

  pub in-bound : (j : ℕ) → t ≡ Bound j → k ≡ inside t k
  in-bound j h = rw h refl

  pub in-name : (n a : ℕ) → t ≡ Name n a → k ≡ inside t k
  in-name n a h = rw h refl

  pub in-instance : (i n a : ℕ) → t ≡ InstanceOperator i n a → k ≡ inside t k
  in-instance i n a h = rw h refl

  pub in-built-in : (c h r : ℕ) → t ≡ BuiltIn c → h ≡ row_number c → ((c : ℕ) → h ≡ row_number c → r ≡ inside (BuiltIn c) k) → r ≡ inside t k
  in-built-in c h r p eh e = rw p (e c eh)

  pub in-literal : (v : ℕ) → t ≡ Literal v → k ≡ inside t k
  in-literal v h = rw h refl

  pub inside-low : (r : ℕ) → r ≡ inside t k → r ≤ k + 1
  inside-low r e = rw e (go (eqb (binds_of t) 0))
    where
      go : (b : Bool) → cond b k (k + 1) ≤ k + 1
      go true = omega arith
      go false = omega arith

-- room for as many bound variables more as there is nesting left
pub room-under : (k outer last n e : ℕ) → e ≡ under_of k outer last → outer + n < word_count → last + n < word_count → e + n < word_count
room-under k outer last n e h a b = rw h (go (eqb k 1))
  where
    go : (c : Bool) → cond c last outer + n < word_count
    go true = b
    go false = a

module _ (names : List ℕ) (facts : List Facts) (cs : List ℕ) (p : ℕ) where
  abbrev U : Algebra ℕ Bool Bool
  U = searching (unknown_in names facts cs p)

  abbrev M : Algebra ℕ Bool Bool
  M = searching (miscounted_in names facts cs)

  -- a token's answers
  pub heads : (bound : ℕ) (t : Token) (a : Looked) (l : Option Look) (x : Looked) → l ≡ look_in names facts cs t
      → (x.next ≡ a.next) × (x.unknown ≡ (unknown_at p bound t l || a.unknown)) × (x.miscounted ≡ (miscounted_at t l || a.miscounted))
      → Heads names facts cs p bound t a x
  heads bound t a l x el (hn, hu, hm) = record {
    next = hn;
    unknown = hu ∙ ap (λ (l : Option Look). unknown_at p bound t l || a.unknown) el;
    miscounted = hm ∙ ap (λ (l : Option Look). miscounted_at t l || a.miscounted) el;
  }

  -- a step over a token
  module _ (e : ℕ) (s : List ℕ) (a : Looked) where
    nothing-there : token_at s a.next ≡ None → Steps names facts cs p e s a None
    nothing-there z n l = record {
      unknown = kept-nothing U n s a.next e false l.unknown l.next (token_at s a.next) refl z refl;
      miscounted = kept-nothing M n s a.next e false l.miscounted l.next (token_at s a.next) refl z refl;
    }

    module _ (t : Token) (there : token_at s a.next ≡ Some t) where
      too_many : max_arity < arguments_of t → Steps names facts cs p e s a None
      too_many z zero l = record {
        unknown = kept-limit U zero s a.next e false l.unknown l.next refl refl;
        miscounted = kept-limit M zero s a.next e false l.miscounted l.next refl refl;
      }
      too_many z (suc n) l = record {
        unknown = kept-count U (suc n) s a.next e false l.unknown l.next (token_at s a.next) refl t there (λ (q : suc n ≡ 0). omega arith) (arguments_of t) refl z refl;
        miscounted = kept-count M (suc n) s a.next e false l.miscounted l.next (token_at s a.next) refl t there (λ (q : suc n ≡ 0). omega arith) (arguments_of t) refl z refl;
      }

      abbrev u : Bool
      u = unknown_in names facts cs p e 0 t

      abbrev m : Bool
      m = miscounted_in names facts cs e 0 t

      module _ (few : arguments_of t ≤ max_arity) where
        token-over : (n : ℕ) → (n ≡ 0 → ⊥) → (kept : Bool) (l : Looked)
            → SkimsAll names facts cs p e (inside t e) (several (expr_at (n - 1) s) (a.next + width_of t) (arguments_of t)) kept l
            → Skims names facts cs p e (expr_at n s a.next) kept (record { next = l.next; unknown = u || l.unknown; miscounted = m || l.miscounted })
        token-over n deep true l all = record {
          unknown = kept-token U n s a.next e true (u || l.unknown) l.next (token_at s a.next) refl t there deep (arguments_of t) refl (width_of t) refl (inside t e) refl true
              l.unknown l.next all.unknown few refl refl refl refl;
          miscounted = kept-token M n s a.next e true (m || l.miscounted) l.next (token_at s a.next) refl t there deep (arguments_of t) refl (width_of t) refl (inside t e) refl true
              l.miscounted l.next all.miscounted few refl refl refl refl;
        }
        token-over n deep false l all = record {
          unknown = kept-lost U n s a.next e false (u || l.unknown) l.next (token_at s a.next) refl t there deep (arguments_of t) refl (width_of t) refl (inside t e) refl false
              l.unknown l.next all.unknown refl refl;
          miscounted = kept-lost M n s a.next e false (m || l.miscounted) l.next (token_at s a.next) refl t there deep (arguments_of t) refl (width_of t) refl (inside t e) refl false
              l.miscounted l.next all.miscounted refl refl;
        }

        step-over : (r : Step) → r.count ≡ arguments_of t → r.inner ≡ inside t e → r.looked.next ≡ a.next + width_of t → r.looked.unknown ≡ (a.unknown || u)
            → r.looked.miscounted ≡ (a.miscounted || m) → Passed names facts cs p e s a r
        step-over r ec ei en eu em = record {
          few = omega arith;
          low = inside-low t e r.inner ei;
          own = record { next = 0; unknown = u; miscounted = m };
          unknown = eu;
          miscounted = em;
          over = λ n deep b l all. token-over n deep b l (rw (ei, en, ec) at all);
        }

    module _ (o : Option Token) (et : o ≡ token_at s a.next) where
      pub step-nothing : o ≡ None → Steps names facts cs p e s a None
      step-nothing z = nothing-there (sym et ∙ z)

      pub step_count : (t : Token) (k : ℕ) → o ≡ Some t → k ≡ arguments_of t → max_arity < k → Steps names facts cs p e s a None
      step_count t k there ek z = too_many t (sym et ∙ there) (rw (← ek) z)

    -- where two bytes are left
    module _ (x tag : ℕ) (more : 1 < length s - a.next) (ex : x ≡ get_or s (a.next + 1) 0) (et : tag ≡ get_or s a.next 0) where
      pub step-parameter : (r : Step) → tag ≡ 0 → Leaf e (a.next + 2) (leb p x) a r → Passed names facts cs p e s a r
      step-parameter r z l =
          step-over (Parameter x) (reads-parameter s a.next x tag more ex et z) (omega arith) r l.count l.inner l.next l.unknown l.miscounted

      pub step-no-code : tag ≡ 4 → (h k : ℕ) → h ≡ row_number x → k ≡ arity_in h → k ≡ no_code → Steps names facts cs p e s a None
      step-no-code z h k eh ek ec = nothing-there (reads-no-code s a.next x tag more ex et z (sym (row-arity x h eh k ek) ∙ ec))

  module _ (e : ℕ) (s : List ℕ) (a : Looked) (k inner : ℕ) (b : Looked) where
    abbrev stepped : Looked → Step
    stepped x = record { count = k; inner = inner; looked = x }

    pub step-token : (o : Option Token) (t : Token) → o ≡ token_at s a.next → o ≡ Some t → k ≡ arguments_of t → (w : ℕ) → w ≡ width_of t
        → inner ≡ inside t e → k ≤ max_arity → (x : Looked) → (b.next ≡ a.next + w) × (b.unknown ≡ a.unknown) × (b.miscounted ≡ a.miscounted)
        → Heads names facts cs p e t b x → Passed names facts cs p e s a (record { count = k; inner = inner; looked = x })
    step-token o t et there ek w ew el few x (bn, bu, bm) h =
        step-over e s a t (sym et ∙ there) (rw (← ek) few) (stepped x) ek el (h.next ∙ bn ∙ ap (λ (y : ℕ). a.next + y) ew)
        (h.unknown ∙ or_comm (unknown_in names facts cs p e 0 t) b.unknown ∙ ap (λ (y : Bool). y || unknown_in names facts cs p e 0 t) bu)
        (h.miscounted ∙ or_comm (miscounted_in names facts cs e 0 t) b.miscounted ∙ ap (λ (y : Bool). y || miscounted_in names facts cs e 0 t) bm)

    -- a built-in's count is within the limit
    pub step-code : (x tag h : ℕ) → 1 < length s - a.next → x ≡ get_or s (a.next + 1) 0 → tag ≡ get_or s a.next 0 → tag ≡ 4 → h ≡ row_number x → k ≡ arity_in h
        → (k ≡ no_code → ⊥) → ((c : ℕ) → h ≡ row_number c → inner ≡ inside (BuiltIn c) e) → (b.next ≡ a.next + 2) × (b.unknown ≡ a.unknown) × (b.miscounted ≡ a.miscounted)
        → Passed names facts cs p e s a (record { count = k; inner = inner; looked = b })
    step-code x tag h more ex et z eh ea ec el (bn, bu, bm) =
        step-over e s a (BuiltIn x) reads (leb-true (arity_of x) max_arity (sym (written_count s a.next (BuiltIn x) reads))) (stepped b)
        ek (el x eh) bn (bu ∙ sym (or-false a.unknown)) (bm ∙ sym (or-false a.miscounted))
      where
        ek : k ≡ arity_of x
        ek = row-arity x h eh k ea

        reads : token_at s a.next ≡ Some (BuiltIn x)
        reads = reads-code s a.next x tag more ex et z (λ (q : arity_of x ≡ no_code). ec (ek ∙ q))

  -- what does not keep the limits says nothing
  any-all : (outer last : ℕ) (y : Founds) (l x : Looked) → SkimsAll names facts cs p outer last y false l → SkimsAll names facts cs p outer last y false x
  any-all outer last y l x h = record {
    unknown = any-worth U outer last y l.unknown x.unknown l.next x.next h.unknown;
    miscounted = any-worth M outer last y l.miscounted x.miscounted l.next x.next h.miscounted;
  }

  any-one : (e : ℕ) (y : Found) (l x : Looked) → Skims names facts cs p e y false l → Skims names facts cs p e y false x
  any-one e y l x h = record {
    unknown = any-kept U e y l.unknown x.unknown l.next x.next h.unknown;
    miscounted = any-kept M e y l.miscounted x.miscounted l.next x.next h.miscounted;
  }

  -- no argument
  all_none : (outer last n : ℕ) (s : List ℕ) (at k : ℕ) → k ≡ 0
      → SkimsAll names facts cs p outer last (several (expr_at n s) at k) true (record { next = at; unknown = false; miscounted = false })
  all_none outer last n s at k z = rw z record {
    unknown = kepts-none U outer last (expr_at n s) at;
    miscounted = kepts-none M outer last (expr_at n s) at;
  }

  -- the first argument and the others
  module _ (outer last n : ℕ) (s : List ℕ) (at k : ℕ) (some : k ≡ 0 → ⊥) (e : ℕ) (ee : e ≡ under_of k outer last) where
    first-lost : (f l : Looked) → Skims names facts cs p e (expr_at n s at) false f → SkimsAll names facts cs p outer last (several (expr_at n s) at k) false l
    first-lost f l h =
        rw (several-more (expr_at n s) at k some)
        record {
          unknown = kepts-lost U outer last (expr_at n s at) (λ q. several (expr_at n s) q (k - 1)) e f.unknown f.next l.unknown l.next h.unknown;
          miscounted = kepts-lost M outer last (expr_at n s at) (λ q. several (expr_at n s) q (k - 1)) e f.miscounted f.next l.miscounted l.next h.miscounted;
        }

    scoped : (q : ℕ) → Scoped outer last e (several (expr_at n s) q (k - 1))
    scoped q = rw ee (scoped_at outer last (expr_at n s) k q some)

    first_more : (f : Looked) (kept : Bool) (l : Looked) → Skims names facts cs p e (expr_at n s at) true f
        → SkimsAll names facts cs p outer last (several (expr_at n s) f.next (k - 1)) kept l
        → SkimsAll names facts cs p outer last (several (expr_at n s) at k) kept (joined f l)
    first_more f kept l h others =
        rw (several-more (expr_at n s) at k some)
        record {
          unknown = kepts-more U outer last (expr_at n s at) (λ q. several (expr_at n s) q (k - 1)) e f.unknown f.next kept (f.unknown || l.unknown) l.unknown l.next
              h.unknown scoped others.unknown refl;
          miscounted = kepts-more M outer last (expr_at n s at) (λ q. several (expr_at n s) q (k - 1)) e f.miscounted f.next kept (f.miscounted || l.miscounted) l.miscounted l.next
              h.miscounted scoped others.miscounted refl;
        }

    first_one : k ≡ 1 → (kept : Bool) (f : Looked) → Skims names facts cs p e (expr_at n s at) kept f → SkimsAll names facts cs p outer last (several (expr_at n s) at k) kept f
    first_one z true f h =
        rw (← or-false f.unknown, ← or-false f.miscounted)
        (first_more f true (record { next = f.next; unknown = false; miscounted = false }) h (all_none outer last n s f.next (k - 1) (omega arith)))
    first_one z false f h = first-lost f f h

    -- where the first does not keep the limits
    first-passed : ((l : Looked) → Skims names facts cs p e (expr_at n s at) false l) → (l : Looked) → SkimsAll names facts cs p outer last (several (expr_at n s) at k) false l
    first-passed h l = first-lost l l (h l)

or-four : (a b c d : Bool) → (a || b || c || d) ≡ (a || (b || c || d))
or-four true b c d = refl
or-four false b c d = refl

-- What is left of a walk over `count` arguments: k of them, at the position that a has reached, or of another list that is the end of theirs.
-- What they say, after what a says, is what is asked for.
pub record Going (names : List ℕ) (facts : List Facts) (cs : List ℕ) (p : ℕ) (s : List ℕ) (at count nesting around within : ℕ) (a : Looked) (k nest outer last : ℕ) : Type 0 where
  pub whole : (kept : Bool) (l : Looked) → SkimsAll names facts cs p outer last (several (expr_at nest s) a.next k) kept l
      → SkimsAll names facts cs p around within (several (expr_at nesting s) at count) kept (joined a l)
  pub few : k ≤ max_arity
  pub deep : nest ≤ nesting
  pub outside : outer + nest < word_count
  pub inside : last + nest < word_count

module _ (names : List ℕ) (facts : List Facts) (cs : List ℕ) (p : ℕ) (s : List ℕ) (at count nesting around within : ℕ) where
  abbrev Answer : Option Looked → Type 0
  Answer r = AllSkimmed names facts cs p around within (several (expr_at nesting s) at count) r

  pub going_start : (a : Looked) → (a.next ≡ at) × (a.unknown ≡ false) × (a.miscounted ≡ false) → count ≤ max_arity → around + nesting < word_count
      → within + nesting < word_count → Going names facts cs p s at count nesting around within a count nesting around within
  going_start a (hn, hu, hm) few x y = record {
    whole = λ kept l h. rw (hu, hm) (rw hn at h);
    few = few;
    deep = omega arith;
    outside = x;
    inside = y;
  }

  module _ (a : Looked) (k nest outer last : ℕ) (inv : Going names facts cs p s at count nesting around within a k nest outer last) where
    pub going_end : k ≡ 0 → Answer (Some a)
    going_end z =
        rw (← or-false a.unknown, ← or-false a.miscounted)
        (inv.whole true (record { next = a.next; unknown = false; miscounted = false }) (all_none names facts cs p outer last nest s a.next k z))

    stop : (k ≡ 0 → ⊥) → ((e : ℕ) → e ≡ under_of k outer last → Skimmed names facts cs p e (expr_at nest s a.next) None) → Answer None
    stop some h x =
        any-all names facts cs p around within (several (expr_at nesting s) at count) (joined a a) x
        (inv.whole false a
        (first-passed names facts cs p outer last nest s a.next k some (under_of k outer last) refl (h (under_of k outer last) refl) a))

    pub stop-limit : (k ≡ 0 → ⊥) → nest ≡ 0 → Answer None
    stop-limit some z = stop some (λ e q l. record {
      unknown = kept-limit (U names facts cs p) nest s a.next e false l.unknown l.next z refl;
      miscounted = kept-limit (M names facts cs p) nest s a.next e false l.miscounted l.next z refl;
    })

    pub going-room : (e : ℕ) → e ≡ under_of k outer last → e + nest < word_count
    going-room e h = room-under k outer last nest e h inv.outside inv.inside

    pub going-low : (e : ℕ) → e ≡ under_of k outer last → e < word_count
    going-low e h = omega (arith, going-room e h)

    pub going-below : (e : ℕ) → e ≡ under_of k outer last → e + (nest - 1) < word_count
    going-below e h = omega (arith, going-room e h)

    pub going-within : (e : ℕ) → e ≡ under_of k outer last → (t : Step) → Passed names facts cs p e s a t → (nest ≡ 0 → ⊥) → t.inner + (nest - 1) < word_count
    going-within e h t steps z = omega (arith, going-room e h, steps.low)

    module _ (some : k ≡ 0 → ⊥) (e : ℕ) (ee : e ≡ under_of k outer last) where
      stop-first : Skimmed names facts cs p e (expr_at nest s a.next) None → Answer None
      stop-first h = stop some (λ i q l. subst (λ (y : ℕ). Skims names facts cs p y (expr_at nest s a.next) false l) (ee ∙ sym q) (h l))

      pub stop-token : Steps names facts cs p e s a None → Answer None
      stop-token passed = stop-first (passed nest)

      module _ (t : Step) (steps : Passed names facts cs p e s a t) (more : nest ≡ 0 → ⊥) where
        -- the last argument: what is left is its arguments
        pub going-inside : k ≡ 1 → Going names facts cs p s at count nesting around within t.looked t.count (nest - 1) e t.inner
        going-inside z = record {
          whole = λ kept l h.
              rw (steps.unknown, steps.miscounted, or_assoc, or_assoc)
              (inv.whole kept (joined steps.own l)
              (first_one names facts cs p outer last nest s a.next k some e ee z kept (joined steps.own l) (steps.over nest more kept l h)));
          few = steps.few;
          deep = omega (arith, inv.deep);
          outside = omega (arith, going-room e ee);
          inside = omega (arith, going-room e ee, steps.low);
        }

        pub stop-inside : AllSkimmed names facts cs p e t.inner (several (expr_at (nest - 1) s) t.looked.next t.count) None → Answer None
        stop-inside passed =
            stop-first (λ l. any-one names facts cs p e (expr_at nest s a.next) (joined steps.own l) l (steps.over nest more false l (passed l)))

        module _ (b : Looked) (args : SkimsAll names facts cs p e t.inner (several (expr_at (nest - 1) s) t.looked.next t.count) true b) where
          pub going_on : (x : Looked) → (x.next ≡ b.next) × (x.unknown ≡ (t.looked.unknown || b.unknown)) × (x.miscounted ≡ (t.looked.miscounted || b.miscounted))
              → Going names facts cs p s at count nesting around within x (k - 1) nest outer last
          going_on x (hn, hu, hm) = record {
            whole = λ kept l h.
                rw (hu, hm, steps.unknown, steps.miscounted, or-four, or-four)
                (inv.whole kept (joined (joined steps.own b) l)
                (first_more names facts cs p outer last nest s a.next k some e ee (joined steps.own b) kept l (steps.over nest more true b args) (rw hn at h)));
            few = omega (arith, inv.few);
            deep = inv.deep;
            outside = inv.outside;
            inside = inv.inside;
          }

        -- an argument that has none
        pub going-leaf : t.count ≡ 0 → Going names facts cs p s at count nesting around within t.looked (k - 1) nest outer last
        going-leaf z =
            going_on (record { next = t.looked.next; unknown = false; miscounted = false })
            (all_none names facts cs p e t.inner (nest - 1) s t.looked.next t.count z) t.looked
            (refl, sym (or-false t.looked.unknown), sym (or-false t.looked.miscounted))

-- one argument is an expression
module _ (names : List ℕ) (facts : List Facts) (cs : List ℕ) (p e : ℕ) where
  alone : (u : ℕ → ℕ → Token → Bool) (y : Found) (b v : Bool) (x : ℕ) → KeptWorths (searching u) e e (after y (λ q. founds ⟨⟩ q)) b v x → KeptWorth (searching u) e y b v x
  unfolding KeptWorth KeptWorths
  alone u (found t n) b v x (h, k) = (h ∙ and-true (counts_kept t), λ q. ((k q).0 ∙ or-false (fold (searching u) e t), (k q).1))
  alone u none b v x h = h

  alone-one : (n : ℕ) (s : List ℕ) (at : ℕ) (b : Bool) (l : Looked) → SkimsAll names facts cs p e e (several (expr_at n s) at 1) b l
      → Skims names facts cs p e (expr_at n s at) b l
  alone-one n s at b l h = record {
    unknown = alone (unknown_in names facts cs p) (expr_at n s at) b l.unknown l.next h.unknown;
    miscounted = alone (miscounted_in names facts cs) (expr_at n s at) b l.miscounted l.next h.miscounted;
  }

  pub one-alone : (n : ℕ) (s : List ℕ) (at : ℕ) (r : Option Looked) → AllSkimmed names facts cs p e e (several (expr_at n s) at 1) r
      → Skimmed names facts cs p e (expr_at n s at) r
  one-alone n s at None h = λ l. alone-one n s at false l (h l)
  one-alone n s at (Some l) h = alone-one n s at true l h
