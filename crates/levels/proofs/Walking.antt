-- The walk: one lemma for each way through its code, with the facts that the code has there as premises; and the room for bound variables.
use mathlib.Core.Path.{◌≡◌, refl, sym, ap, ◌∙◌, subst}
use mathlib.Core.Bool.{Bool, cond, false, true}
use Rattle.std.specs.Prelude.{Option, None, Some}
use mathlib.Core.List.{List, ◌∷◌}
use Prim.Native.Nat.{ℕ, suc, ◌+◌, ◌-◌, ◌*◌, ◌/◌, ◌%◌, ◌^◌, ◌≤◌, ◌<◌}
use native.Mathlib.Nat.{pow-succ', pow-le-pow_right}
use native.Mathlib.Omega.{arith}
use lib.Bits.{bit_or, or_zero_r}
use lib.Dec.{eqb, leb}
use lib.ListN.{get_or, length}
use lib.Pow.{pow_pos}
use Rattle.tokens.proofs.Tags.{reads-code, reads-no-code, reads-parameter}
use Rattle.limits.specs.Limits.{max_arity, max_nesting}
use Rattle.theory.specs.Level.{IsLevel}
use Rattle.theory.specs.Lists.{All}
use Rattle.theory.specs.Tree.{◌▹◌, ⟨⟩}
use Rattle.tokens.specs.Token.{arguments_of, token_at, width_of}
use Rattle.tokens.specs.Expr.{Expr, Found, Founds, after as behind, before, expr_at, found, founds, none, nones, over, several}
use Rattle.tokens.specs.Fold.{fold, folds, under as scoped, under_of}
use Rattle.tokens.specs.declared.Token.{Token}
use Rattle.tokens.specs.declared.Token.TheVariants.{Parameter, BuiltIn}
use Rattle.tokens.proofs.Folding.{Scoped, scoped_at}
use Rattle.tokens.proofs.Places.{never, written_count}
use Rattle.tokens.proofs.Reading.{expr-more, expr-none, expr-zero, several-more}
use Rattle.texts.specs.Text.{scope, token_level}
use Rattle.forms.specs.Labels.{Digit, after, coded, level_of, under, whole}
use Rattle.forms.specs.Forms.{GivesBits, bits_at, gives, level_at, width}
use Rattle.forms.proofs.Laws.{after-digit, level-coded, or_assoc, under-after, under-or, under-plain, under-zero}
use Rattle.forms.proofs.Forms.{bits-base}
use Rattle.levels.specs.declared.steps.Step.{Step}
use Rattle.levels.specs.declared.Under.{Under}
use Rattle.levels.specs.Tables.{Names, levels_at, scene_of}
use Rattle.levels.specs.Walk.{Adds, AddsAll, Built, Fits, Lost, Passed, Plain, Room, Says, Stepped, Steps, TextForm, Tokened, inside}
use Rattle.levels.proofs.Counted.{CountedsAt, counted, counted-several}
use Rattle.levels.proofs.Low.{fold-low, folds-length, folds-low}

-- the first of the labels
pub first-digit : (l labels d r : ℕ) → d ≡ labels % 8 → Digit (after l d) r → Digit (after l labels) r
first-digit l labels d r e h = record { same = h.same ∙ ap (after l) e ∙ after-digit l labels; low = h.low }

-- what arguments inherit
abbrev pub inherit : ℕ → ℕ → ℕ → ℕ → Under
inherit outer last l labels = record { around = outer; within = last; label = l; labels = labels }

-- a built-in that stands somewhere exists
code-there : (s : List ℕ) (at : ℕ) (t : Token) → token_at s at ≡ Some t → Lost t → ⊥
code-there s at t there (a, w) =
    never (sym (sym (ap (λ (k : ℕ). leb k max_arity) w) ∙ written_count s at t there ∙ ap (λ (k : ℕ). leb k max_arity) a))

module _ (N : Names) where
  -- ---- a token over its arguments
  module _ (t : Token) (at bits l f m labels : ℕ) (base : List ℕ → ℕ) (g : GivesBits m (λ v. bit_or (bits_at f v) (under l (base v))))
      (says : Says N t at bits base labels) where
    put-over : (y : Founds) (more next : ℕ) → CountedsAt (arguments_of t) y → AddsAll N (inherit bits (scope t bits) l labels) m y more next
        → Adds N bits l f (over at t y) more next
    unfolding Adds AddsAll Says
    put-over (founds ts n) more next c (p, q) = (p, record { at = λ v h low. here v h low })
      where
        here : (v : List ℕ) → length v ≤ width → All IsLevel v
            → bits_at more v ≡ bit_or (bits_at f v) (under l (coded (token_level N.refs (scene_of N.numbers N.words) N.outer v bits at t (folds (levels_at N v) bits (scope t bits) ts))))
        here v h low =
            let ls = folds (levels_at N v) bits (scope t bits) ts in
            q.at v h low ∙ ap (λ (y : ℕ). bit_or y (under l (gives labels ls))) (g.at v h low)
            ∙ or_assoc (bits_at f v) (under l (base v)) (under l (gives labels ls))
            ∙ ap (bit_or (bits_at f v)) (sym (under-or l (base v) (gives labels ls))
            ∙ ap (under l) (sym (says v ls h low (folds-length N v ts bits (scope t bits) ∙ c.0) (folds-low N v low ts bits (scope t bits)))))
    put-over nones more next c u = tt

  -- ---- the first argument and the others
  module _ (outer last l labels f : ℕ) where
    put-before : (t : Expr) (y : Founds) (e m more next : ℕ)
        → GivesBits m (λ v. bit_or (bits_at f v) (under (after l labels) (coded (fold (levels_at N v) e t)))) → Scoped outer last e y
        → AddsAll N (inherit outer last l (labels / 8)) m y more next → AddsAll N (inherit outer last l labels) f (before t y) more next
    unfolding AddsAll
    put-before t (founds ts n) e m more next g hs (p, q) = (p, record { at = λ v h low. here v h low })
      where
        here : (v : List ℕ) → length v ≤ width → All IsLevel v
            → bits_at more v ≡ bit_or (bits_at f v) (under l (gives labels (fold (levels_at N v) (scoped ts outer last) t ∷ folds (levels_at N v) outer last ts)))
        here v h low =
            let ls = folds (levels_at N v) outer last ts in
            let x = coded (fold (levels_at N v) (scoped ts outer last) t) in
            q.at v h low
            ∙ ap (λ (y : ℕ). bit_or y (under l (gives (labels / 8) ls)))
            (g.at v h low ∙ ap (λ (i : ℕ). bit_or (bits_at f v) (under (after l labels) (coded (fold (levels_at N v) i t)))) hs)
            ∙ or_assoc (bits_at f v) (under (after l labels) x) (under l (gives (labels / 8) ls))
            ∙ ap (bit_or (bits_at f v)) (ap (λ (y : ℕ). bit_or y (under l (gives (labels / 8) ls))) (sym (under-after l labels x)) ∙ sym (under-or l (under labels x) (gives (labels / 8) ls)))
    put-before t nones e m more next g hs u = tt

    put_first : (y : Found) (rest : ℕ → Founds) (e d m n more next : ℕ) → d ≡ after l labels → Adds N e d f y m n → ((q : ℕ) → Scoped outer last e (rest q))
        → AddsAll N (inherit outer last l (labels / 8)) m (rest n) more next → AddsAll N (inherit outer last l labels) f (behind y rest) more next
    unfolding Adds AddsAll
    put_first (found t i) rest e d m n more next ed (p, g) hs a =
        put-before t (rest i) e m more next (subst (λ (y : ℕ). GivesBits m (λ v. bit_or (bits_at f v) (under y (coded (fold (levels_at N v) e t))))) ed g) (hs i)
        (subst (λ (y : ℕ). AddsAll N (inherit outer last l (labels / 8)) m (rest y) more next) p a)
    put_first none rest e d m n more next ed u hs a = tt

    -- no argument
    all_none : (s : List ℕ) (n at k : ℕ) → k ≡ 0 → AddsAll N (inherit outer last l labels) f (several (expr_at n s) at k) f at
    unfolding AddsAll
    all_none s n at k z = rw z (refl, record { at = λ v h _. sym (ap (bit_or (bits_at f v)) (under-zero l) ∙ or_zero_r (bits_at f v)) })

  -- ---- a step
  module _ (s : List ℕ) (at bits l f : ℕ) (r : Step) where
    steps-over : (t : Token) → token_at s at ≡ Some t → Stepped N t at bits l f (at + width_of t) r
        → (n : ℕ) → (n ≡ 0 → ⊥) → (more next : ℕ)
        → AddsAll N (inside bits l r) r.form (several (expr_at (n - 1) s) r.next r.count) more next
        → Adds N bits l f (expr_at n s at) more next
    steps-over t there st n z more next h =
        rw (expr-more n s at t z there)
        (put-over t at bits l f r.form r.labels st.base st.form st.says (several (expr_at (n - 1) s) (at + width_of t) (arguments_of t)) more next
        (counted-several (expr_at (n - 1) s) (λ p. counted (n - 1) s p) (arguments_of t) (at + width_of t))
        (rw (st.inner, st.next, st.count) at h))

    module _ (x tag : ℕ) (left : 1 < length s - at) (ex : x ≡ get_or s (at + 1) 0) (et : tag ≡ get_or s at 0) where
      pub steps-parameter : tag ≡ 0 → Plain N.outer (Parameter x) bits l f (at + 2) r → Passed N s at bits l f r
      steps-parameter z p =
          let st = p.anywhere N at refl in
          record { low = st.low; over = steps-over (Parameter x) (reads-parameter s at x tag left ex et z) st }

  -- ---- a step, or none
  module _ (s : List ℕ) (at bits l f : ℕ) where
    -- where nothing stands
    pub steps-nothing : (o : Option Token) → o ≡ token_at s at → o ≡ None → Steps N s at bits l f None
    steps-nothing o et z n = expr-none n s at (sym et ∙ z)

    pub steps-token : (r : Option Step) (o : Option Token) (t : Token) → o ≡ token_at s at → o ≡ Some t → (w : ℕ) → w ≡ width_of t → Tokened N t at bits l f (at + w) r
        → Steps N s at bits l f r
    steps-token (Some r) o t et it w ew k =
        record { low = k.low; over = steps-over s at bits l f r t (sym et ∙ it) (subst (λ (y : ℕ). Stepped N t at bits l f (at + y) r) ew k) }
    steps-token None o t et it w ew k = λ n. absurd (code-there s at t (sym et ∙ it) k)

    pub steps-code : (r : Option Step) (x tag : ℕ) → 1 < length s - at → x ≡ get_or s (at + 1) 0 → tag ≡ get_or s at 0 → tag ≡ 4 → Built x bits l f (at + 2) r → Steps N s at bits l f r
    steps-code None x tag left ex et z p = λ n. expr-none n s at (reads-no-code s at x tag left ex et z p)
    steps-code (Some r) x tag left ex et z p =
        let st = p.1 N at in
        record { low = st.low; over = steps-over s at bits l f r (BuiltIn x) (reads-code s at x tag left ex et z p.0) st }

-- ---- the room for bound variables
module _ (n bits : ℕ) where
  doubled : (n ≡ 0 → ⊥) → n ≤ 32 → 2 ^ (63 - (n - 1)) ≡ 2 * 2 ^ (63 - n)
  doubled h k = let e : 63 - (n - 1) ≡ suc (63 - n) = omega arith in ap (λ (m : ℕ). 2 ^ m) e ∙ pow-succ' 2 (63 - n)

  pub room-inside : Room n bits → bits < 2 ^ 63
  unfolding Room
  room-inside (h, b) = let p : 2 ^ (63 - n) ≤ 2 ^ 63 = pow-le-pow_right {n = 2} (omega arith) {i = 63 - n} {j = 63} (omega arith) in omega arith

  pub room-below : (n ≡ 0 → ⊥) → Room n bits → Room (n - 1) bits
  unfolding Room
  room-below e (h, b) = (omega arith, omega (arith, doubled e h))

  pub room-last : (last : ℕ) → (n ≡ 0 → ⊥) → last ≤ bits * 2 + 1 → Room n bits → Room (n - 1) last
  unfolding Room
  room-last last e w (h, b) = (omega arith, omega (arith, doubled e h))

  pub room-under : (k outer last : ℕ) → bits ≡ under_of k outer last → Room n outer → Room n last → Room n bits
  room-under k outer last e a b = subst (Room n) (sym e) (go (eqb k 1))
    where
      go : (c : Bool) → Room n (cond c last outer)
      go true = b
      go false = a

room-start : (n : ℕ) → n ≤ max_nesting → Room n 0
unfolding Room
room-start n h = (h, pow_pos (63 - n))

pub fits-start : (n labels : ℕ) → n ≤ max_nesting → Fits n (inherit 0 0 1 labels)
fits-start n labels h = record { around = room-start n h; within = room-start n h; label = omega arith }

-- What is left of a walk over `count` arguments: k of them, at the position that is reached, or of another list that is the end of theirs. What
-- they add to the form that is reached is what is asked for.
pub record Going (N : Names) (s : List ℕ) (at count nesting : ℕ) (u : Under) (start form pos k nest outer last label labels : ℕ) : Type 0 where
  pub whole : (more next : ℕ) → AddsAll N (inherit outer last label labels) form (several (expr_at nest s) pos k) more next
      → AddsAll N u start (several (expr_at nesting s) at count) more next
  pub deep : nest ≤ nesting
  pub free : Room nest outer
  pub inner : Room nest last
  pub small : label < 8

module _ (N : Names) (s : List ℕ) (at count nesting : ℕ) (u : Under) (start : ℕ) where
  abbrev Asked : ℕ → ℕ → Type 0
  Asked more next = AddsAll N u start (several (expr_at nesting s) at count) more next

  pub going_start : Fits nesting u → Going N s at count nesting u start start at count nesting u.around u.within u.label u.labels
  going_start h = record { whole = λ more next g. g; deep = omega arith; free = h.around; inner = h.within; small = h.label }

  module _ (form pos k nest outer last label labels : ℕ)
      (inv : Going N s at count nesting u start form pos k nest outer last label labels) where
    pub going_end : k ≡ 0 → Asked form pos
    going_end z = inv.whole form pos (all_none N outer last label labels form s nest pos k z)

    stop : (k ≡ 0 → ⊥) → expr_at nest s pos ≡ none → (more next : ℕ) → Asked more next
    unfolding AddsAll
    stop some e more next = inv.whole more next (rw (several-more (expr_at nest s) pos k some, e) tt)

    pub stop-limit : (k ≡ 0 → ⊥) → nest ≡ 0 → Asked form pos
    stop-limit some z = stop some (expr-zero nest s pos z) form pos

    module _ (some : k ≡ 0 → ⊥) (e : ℕ) (ee : e ≡ under_of k outer last) where
      pub going-room : Room nest e
      going-room = room-under nest e k outer last ee inv.free inv.inner

      pub going-low : e < 2 ^ 63
      going-low = room-inside nest e going-room

      pub stop-token : (d : ℕ) → Steps N s pos e d form None → Asked form pos
      stop-token d lost = stop some (lost nest) form pos

      module _ (d : ℕ) (ed : Digit (after label labels) d) (t : Step) (steps : Passed N s pos e d form t) where
        module _ (more : nest ≡ 0 → ⊥) where
          pub going-below : Room (nest - 1) e
          going-below = room-below nest e more going-room

          -- whatever the labels: that they are right is asked for elsewhere
          pub going-fits : (l labels : ℕ) → l < 8 → Fits (nest - 1) (inherit e t.inner l labels)
          going-fits l labels h = record { around = going-below; within = room-last nest e t.inner more steps.low going-room; label = h }

          pub going-within : Room (nest - 1) t.inner
          going-within = room-last nest e t.inner more steps.low going-room

          scoped-first : (q : ℕ) → Scoped outer last e (several (expr_at nest s) q (k - 1))
          scoped-first q = rw ee (scoped_at outer last (expr_at nest s) k q some)

          -- the first argument is added, and the others are left
          go_on : (m n : ℕ) → Adds N e d form (expr_at nest s pos) m n
              → Going N s at count nesting u start m n (k - 1) nest outer last label (labels / 8)
          go_on m n a = record {
            whole = λ y x g.
                inv.whole y x
                (rw (several-more (expr_at nest s) pos k some)
                (put_first N outer last label labels form (expr_at nest s pos) (λ q. several (expr_at nest s) q (k - 1)) e d m n y x ed.same a scoped-first g));
            deep = inv.deep;
            free = inv.free;
            inner = inv.inner;
            small = inv.small;
          }

          -- an argument that has none itself
          pub going-leaf : t.count ≡ 0 → Going N s at count nesting u start t.form t.next (k - 1) nest outer last label (labels / 8)
          going-leaf z =
              go_on t.form t.next
              (steps.over nest more t.form t.next (all_none N e t.inner d t.labels t.form s (nest - 1) t.next t.count z))

          pub going_on : (m n : ℕ) → AddsAll N (inside e d t) t.form (several (expr_at (nest - 1) s) t.next t.count) m n
              → Going N s at count nesting u start m n (k - 1) nest outer last label (labels / 8)
          going_on m n a = go_on m n (steps.over nest more m n a)

          -- the last argument: what is left is its arguments
          pub going-inside : k ≡ 1 → Going N s at count nesting u start t.form t.next t.count (nest - 1) e t.inner d t.labels
          going-inside z = record {
            whole = λ y x g.
                (go_on y x (steps.over nest more y x g)).whole y x
                (all_none N outer last label (labels / 8) y s nest x (k - 1) (omega arith));
            deep = omega (arith, inv.deep);
            free = going-below;
            inner = going-within;
            small = ed.low;
          }

-- ---- one argument under no mask is a text
module _ (N : Names) (form : ℕ) (t : Expr) where
  unfolded : (y : ℕ) → under 1 (bit_or (under 1 (coded y)) 0) ≡ coded y
  unfolded y = ap (under 1) (or_zero_r (under 1 (coded y)) ∙ under-plain y) ∙ under-plain y

  zero_bits : (v : List ℕ) → bits_at 0 v ≡ 0
  unfolding whole level_of
  zero_bits v = bits-base 0 v (omega arith)

  alone : (next e : ℕ) → AddsAll N (inherit 0 0 1 1) 0 (founds (t ▹ ⟨⟩) e) form next → (v : List ℕ) → length v ≤ width → All IsLevel v
      → bits_at form v ≡ coded (fold (levels_at N v) 0 t)
  unfolding AddsAll
  alone next e (p, g) v h low =
      let y = fold (levels_at N v) 0 t in
      g.at v h low ∙ ap (λ (x : ℕ). bit_or x (under 1 (bit_or (under 1 (coded y)) 0))) (zero_bits v) ∙ unfolded y

  level-of : (v : List ℕ) → All IsLevel v → bits_at form v ≡ coded (fold (levels_at N v) 0 t) → level_at form v ≡ fold (levels_at N v) 0 t
  unfolding level_at
  level-of v low e = ap level_of e ∙ level-coded (fold (levels_at N v) 0 t) (fold-low N v low t 0)

pub text-shown : (N : Names) (s : List ℕ) (at form next : ℕ) → AddsAll N (inherit 0 0 1 1) 0 (several (expr_at max_nesting s) at 1) form next → TextForm N s at form
text-shown N s at form next a =
    record { level = λ t e q v h low. level-of N form t v low (alone N form t next e (rw q at a) v h low) }
