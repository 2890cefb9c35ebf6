-- The cases of the parts of a step in the string.
use Rattle.std.specs.Prelude.{Err, None, Ok, Option, Result, Some, SomeIff}
use Rattle.std.proofs.lemmas.Option.{none-some, same_Some}
use mathlib.Core.Bool.{Bool, ◌||◌, false, true}
use mathlib.Core.List.{List, [], ◌∷◌}
use mathlib.Core.Logic.{◌⊎◌, inl, inr}
use mathlib.Core.Path.{◌≡◌, ◌∙◌, ap, ap₂, refl, subst, sym}
use borrow.Author.Tests.{eq-eqb, ltb-false, ne_eqb}
use lib.Dec.{ltb}
use lib.ListN.{drop, get_or, length, length-set, set}
use lib.Seq.{get_or-set_other, get_or-set_same, length-sets, sets}
use native.Mathlib.Nat.{add_assoc, mul-le-mul_left}
use native.Mathlib.Numerals.{add-one}
use native.Mathlib.Omega.{arith}
use Prim.Native.Nat.{ℕ, zero, suc, ◌+◌, ◌-◌, ◌*◌, ◌%◌, ◌^◌, ◌≤◌, ◌<◌}
use Rattle.symbols.specs.Symbol.{Symbol, begin, bytes_of, call, code, is_wide, name, number, par, size, var, wide}
use Rattle.strings.specs.Laid.{Laid}
use Rattle.strings.specs.Read.{is_far, symbol_of}
use Rattle.strings.specs.declared.Sign.{Sign}
use Rattle.strings.specs.declared.Sign.TheVariants.{Begin, Call, Code, End, Name, Number, Par, Var}
use Rattle.shifting.proofs.Shifting.{shift-one-calls}
use Rattle.shifting.specs.Shift.{noted, opened_by, shift_one}
use Rattle.cells.proofs.Words.{cell-inside}
use Rattle.cells.specs.Table.{Sized}
use Rattle.cells.specs.Words.{four, word_at}
use Rattle.cells.specs.declared.Layout.{Layout}
use Rattle.streaming.specs.Here.{EntersCall, Opens, Passes, PassesHere, WritesHere, entered, leaving, shifted_index}
use Rattle.streaming.specs.declared.Now.{Now}
use Rattle.streaming.specs.declared.Fault.{Fault}
use Rattle.streaming.specs.declared.Stepped.{Stepped}
use Rattle.streaming.specs.declared.Stepped.TheVariants.{Finished, On}
use Rattle.streaming.specs.declared.Fault.TheVariants.{Lost, Short}
use Rattle.symbols.specs.Spell.{max_params}

-- what is noted of the brackets open, by position
module _ (env : List ℕ) where
  noted-at : (d i : ℕ) → i < d → get_or (noted env d) i 0 ≡ get_or env (d - 1 - i) 0
  noted-at zero i l = absurd (omega arith)
  noted-at (suc d) zero l = ap (λ (k : ℕ). get_or env k 0) (omega arith)
  noted-at (suc d) (suc i) l = noted-at d i (omega arith) ∙ ap (λ (k : ℕ). get_or env k 0) (omega arith)

  noted-past : (d i : ℕ) → d ≤ i → get_or (noted env d) i 0 ≡ 0
  noted-past zero i l = refl
  noted-past (suc d) zero l = absurd (omega arith)
  noted-past (suc d) (suc i) l = noted-past d i (omega arith)

  noted-set : (d k v : ℕ) → d ≤ k → noted (set env k v) d ≡ noted env d
  noted-set zero k v l = refl
  noted-set (suc d) k v l = ap₂ (λ (e : ℕ) (es : List ℕ). e ∷ es) (get_or-set_other env k d v 0 (λ (e : d ≡ k). omega arith)) (noted-set d k v (omega arith))

  noted-less : (d : ℕ) → 0 < d → noted env (d - 1) ≡ drop 1 (noted env d)
  noted-less zero l = absurd (omega arith)
  noted-less (suc d) l =
      let z : suc d - 1 ≡ d = omega arith in
      ap (noted env) z

  module _ (b d j : ℕ) where
    pub index-own : (before less : ℕ) → j < d → before ≡ get_or env (d - 1 - j) 0 → less ≡ b - before → j + less ≡ shifted_index env b d j
    index-own before less l e f = ap (λ (z : ℕ). j + z) (f ∙ ap (λ (z : ℕ). b - z) (e ∙ sym (noted-at d j l)))

    pub index-past : d ≤ j → j + b ≡ shifted_index env b d j
    index-past l = let z = noted-past d j l in rw z (omega arith)

  -- the arms of a symbol
  module _ (g : Sign) (b d : ℕ) where
    pub shifted-par : {i : ℕ} → g ≡ Par i → par i ≡ shift_one (noted env d) b (symbol_of g)
    shifted-par e = rw e

    pub shifted-var : {i j : ℕ} → g ≡ Var j → i ≡ shifted_index env b d j → var i ≡ shift_one (noted env d) b (symbol_of g)
    shifted-var e p = rw (e, p)

    pub shifted-name : {x k : ℕ} → g ≡ Name x k → name x k ≡ shift_one (noted env d) b (symbol_of g)
    shifted-name e = rw e

    pub shifted-code : {k : ℕ} → g ≡ Code k → code k ≡ shift_one (noted env d) b (symbol_of g)
    shifted-code e = rw e

    pub shifted-number : {v : ℕ} → g ≡ Number v → number v ≡ shift_one (noted env d) b (symbol_of g)
    shifted-number e = rw e

    pub shifted-call : {n : ℕ} → g ≡ Call n → call n ≡ shift_one (noted env d) b (symbol_of g)
    shifted-call e = rw e

    pub wide-var : {i j : ℕ} → g ≡ Var j → i ≡ shifted_index env b d j → ltb 65535 i ≡ is_wide (shift_one (noted env d) b (symbol_of g))
    wide-var e p = rw (e, p)

    pub narrow-var : (i j : ℕ) → g ≡ Var j → i ≡ shifted_index env b d j → is_wide (shift_one (noted env d) b (symbol_of g)) ≡ false → i < 2 ^ 16
    narrow-var i j e p f =
        let w = ltb-false 65535 (shifted_index env b d j) (ap (λ (k : Sign). is_wide (shift_one (noted env d) b (symbol_of k))) (sym e) ∙ f) in
        omega arith

  -- a bracket opened, closed, or neither
  pub opens-begin : (b d : ℕ) → d < length env → Opens begin b d env (set env d b) (Some (d + 1))
  opens-begin b d l =
      let h = length-set env d b in
      record {
        long = h;
        yes = λ k e.
            rw (← same_Some (d + 1) k e)
            (rw (add-one d) (ap₂ (λ (v : ℕ) (es : List ℕ). v ∷ es) (get_or-set_same env d b 0 l) (noted-set d d b (omega arith))), omega arith);
      }

  pub opens-lost : (g : Symbol) (b d : ℕ) → Opens g b d env env None
  opens-lost g b d = record { long = refl; yes = λ k e. absurd (none-some k e) }

  pub opens-none : (g : Sign) (b d : ℕ) → d ≤ length env → opened_by b (noted env d) (symbol_of g) ≡ noted env d → Opens (symbol_of g) b d env env (Some d)
  opens-none g b d l f = record { long = refl; yes = λ k e. rw (← same_Some d k e) (sym f, l) }

  pub opens-end : (g : Sign) (b d : ℕ) (r : Option ℕ) → d ≤ length env → g ≡ End → SomeIff r (1 ≤ d) (d - 1) → Opens (symbol_of g) b d env env r
  opens-end g b d None l e h = opens-lost (symbol_of g) b d
  opens-end g b d (Some x) l e h =
      record { long = refl; yes = λ k o. rw (← same_Some x k o) (ap (noted env) h.1 ∙ rw e (noted-less d (omega (arith, h.0))), omega (arith, h.1)) }

pub opens-same : (g : Sign) (b d : ℕ) (env env' : List ℕ) (r : Option ℕ) → g ≡ Begin → Opens begin b d env env' r → Opens (symbol_of g) b d env env' r
opens-same g b d env env' r e o = rw e o

module _ (E : List ℕ) (g : Sign) (b : ℕ) where
  pub opened-par : {i : ℕ} → g ≡ Par i → opened_by b E (symbol_of g) ≡ E
  opened-par e = rw e

  pub opened-var : {j : ℕ} → g ≡ Var j → opened_by b E (symbol_of g) ≡ E
  opened-var e = rw e

  pub opened-name : {x k : ℕ} → g ≡ Name x k → opened_by b E (symbol_of g) ≡ E
  opened-name e = rw e

  pub opened-code : {c : ℕ} → g ≡ Code c → opened_by b E (symbol_of g) ≡ E
  opened-code e = rw e

  pub opened-number : {v : ℕ} → g ≡ Number v → opened_by b E (symbol_of g) ≡ E
  opened-number e = rw e

  pub opened-call : {n : ℕ} → g ≡ Call n → opened_by b E (symbol_of g) ≡ E
  opened-call e = rw e

pub opens-here : (g : Symbol) (b d : ℕ) (env env' : List ℕ) (o : Option ℕ) → Opens g b d env env' o → (c : ℕ) → o ≡ Some c
    → noted env' c ≡ opened_by b (noted env d) g
opens-here g b d env env' o h c k = (h.yes c k).0

pub opens-within : (g : Symbol) (b d : ℕ) (env env' : List ℕ) (o : Option ℕ) → Opens g b d env env' o → (c : ℕ) → o ≡ Some c → c ≤ length env'
opens-within g b d env env' o h c k =
    let v = (h.yes c k).1 in
    omega (arith, h.long)

-- a test that failed, of what it tested
pub told : (w v : Bool) → w ≡ v → w ≡ false → v ≡ false
told w v e f = sym e ∙ f

-- a symbol written
module _ (g : Symbol) (called : Bool) (known : ℕ) (env out : List ℕ) (s : Now) where
  pub shifted-near : (h : Symbol) → h ≡ shift_one (noted env s.d) s.b g → is_far g ≡ false → is_far h ≡ false
  shifted-near h e f = rw e (shift-one-calls _ (noted env s.d) s.b g ∙ f)

  pub shifted-narrow : (h : Symbol) (w : Bool) → h ≡ shift_one (noted env s.d) s.b g → w ≡ is_wide (shift_one (noted env s.d) s.b g) → w ≡ false
      → is_wide h ≡ false
  shifted-narrow h w e f u = rw e (sym f ∙ u)

  pub short-wide : (w : Bool) → w ≡ is_wide (shift_one (noted env s.d) s.b g) → w ≡ true → WritesHere g called known env out s env out (Err Short)
  short-wide w e f = (refl, inr (sym e ∙ f))

  pub short-room : (h : Symbol) (out' : List ℕ) (f : Option ℕ) → h ≡ shift_one (noted env s.d) s.b g → Laid (h ∷ []) s.q out out' f → f ≡ None
      → WritesHere g called known env out s env out' (Err Short)
  short-room h out' f e l u =
      (l.long, subst (λ (k : Symbol). (length out < s.q + size (k ∷ [])) ⊎ (is_wide k ≡ true)) e (go (l.no u)))
    where
      only : (t : Bool) → (t || false) ≡ t
      only true = refl
      only false = refl

      go : (length out < s.q + size (h ∷ [])) ⊎ (wide (h ∷ []) ≡ true) → (length out < s.q + size (h ∷ [])) ⊎ (is_wide h ≡ true)
      go (inl k) = inl k
      go (inr k) = inr (sym (only (is_wide h)) ∙ k)

  pub writes : (h : Symbol) (env' out' : List ℕ) (f : Option ℕ) (q : ℕ) (r : Result Stepped Fault) → h ≡ shift_one (noted env s.d) s.b g → Laid (h ∷ []) s.q out out' f
      → f ≡ Some q → PassesHere g called known env s q env' r → WritesHere g called known env out s env' out' r
  writes h env' out' f q (Ok (On t)) e l u w =
      let y = l.yes q u in
      let i = l.within q u in
      record {
        long = l.long;
        room = omega (arith, w.q, i);
        put = y.1 ∙ ap (λ (m : Symbol). sets out s.q (bytes_of (m ∷ []))) e;
        passes = subst (λ (q : ℕ). Passes g called known env s q env' t) (y.0 ∙ ap (λ (m : Symbol). s.q + size (m ∷ [])) e) w;
      }
  writes h env' out' f q (Ok (Finished len)) e l u w = w
  writes h env' out' f q (Err Short) e l u w = absurd w
  writes h env' out' f q (Err Lost) e l u w = tt

-- the words of a call
module _ (l : Layout) (r : ℕ) (few : l.places ≤ max_params) (wide : l.stride ≡ l.places + 3) (small : r < 2 ^ 21) where
  pub word_small : r * l.stride + l.places < 2 ^ 26
  word_small =
      let a : r * l.stride ≤ r * (max_params + 3) = mul-le-mul_left r (omega arith) in
      omega arith

  pub row_fits : r * l.stride < 2 ^ 64
  row_fits = let k = word_small in omega arith

  pub word_fits : r * l.stride + l.places < 2 ^ 64
  word_fits = let k = word_small in omega arith

module _ (l : Layout) (table : List ℕ) (sized : Sized l (length table)) (s : Now) (low : s.rank < l.room) where
  pub word-inside : (last i : ℕ) → last ≡ s.rank * l.stride + l.places → 0 < i → i < 3 → 4 * (last + i) + 3 < length table
  word-inside last i e j k =
      let z = add_assoc (s.rank * l.stride) l.places i in
      let c = cell-inside l (length table) s.rank (l.places + i) sized low (omega (arith, sized.wide)) in
      omega (arith, c.0)

  pub word-inside-after : (last i v m : ℕ) (table' : List ℕ) → table' ≡ sets table m (four v) → last ≡ s.rank * l.stride + l.places → 0 < i → i < 3
      → 4 * (last + i) + 3 < length table'
  word-inside-after last i v m table' p e j k =
      let z : length table' ≡ length table = ap length p ∙ length-sets table m (four v) in
      let y = word-inside last i e j k in
      omega arith

pub enters : (l : Layout) (table : List ℕ) (s : Now) (last : ℕ) (table' table'' : List ℕ) (t : Now) → last ≡ s.rank * l.stride + l.places
    → table' ≡ sets table (4 * (last + 1)) (four s.e) → table'' ≡ sets table' (4 * (last + 2)) (four (s.top * 2048)) → t ≡ entered s
    → EntersCall l table s table'' t
enters l table s last table' table'' t e p q g =
    record { goes = g; put = q ∙ ap₂ (λ (m : List ℕ) (z : ℕ). sets m (4 * (z + 2)) (four (s.top * 2048))) (p ∙ ap (λ (z : ℕ). sets table (4 * (z + 1)) (four s.e)) e) e }

pub leaves_all : (l : Layout) (table : List ℕ) (s : Now) → s.top ≡ 0 → Finished s.q ≡ leaving l table s
leaves_all l table s e = rw (eq-eqb s.top 0 e)

module _ (l : Layout) (table : List ℕ) (s : Now) where
  back : ℕ → Now
  back v = record { q = s.q; p = s.p; e = s.e; rank = s.rank; top = s.top; inside = true; tp = v; b = s.b; d = s.d }

  pub leaves-argument : (last link : ℕ) (t : Now) → (s.top ≡ 0 → ⊥) → last ≡ (s.top - 1) * l.stride + l.places → link ≡ word_at table (last + 2)
      → t ≡ record { q = s.q; p = s.p; e = s.e; rank = s.rank; top = s.top; inside = true; tp = link % 2048; b = s.b; d = s.d } → On t ≡ leaving l table s
  unfolding back
  leaves-argument last link t n e f h =
      rw (ne_eqb s.top 0 n) (ap (λ (m : Now). On m) (h ∙ ap (λ (v : ℕ). back (v % 2048)) (f ∙ ap (λ (i : ℕ). word_at table (i + 2)) e)))
