-- Strings of terms close the brackets that they open, so as many are open behind them as before them; indices moved twice.
use mathlib.Core.Bool.{Bool, cond, false, true}
use mathlib.Core.List.{List, [], ◌++◌, ◌∷◌, append_assoc, append-nil}
use mathlib.Core.Path.{◌∙◌, ◌≡◌, ap, ap₂, refl, subst, sym}
use borrow.Author.Tests.{le-ltb, lt-ltb}
use lib.Dec.{eqb, ltb}
use lib.ListN.{get_or-append, drop, get_or, get_or-replicate, length-replicate, replicate}
use lib.Seq.{get_or-append-add}
use native.Mathlib.Decide.{dec_lt}
use native.Mathlib.Omega.{arith}
use Prim.Native.Nat.{ℕ, zero, suc, ◌+◌, ◌-◌, ◌/◌, ◌%◌, ◌<◌, ◌≤◌, zero-le}
use Rattle.strings.specs.Read.{width_of}
use Rattle.symbols.specs.Spell.{alone_shape, bracketed, call_head, mask_of, masked, spell, spells}
use Rattle.symbols.specs.Symbol.{Symbol, begin, call, calls, code, end, fill, move, name, number, par, var}
use Rattle.theory.specs.Level.{binds_in, code_binder, plain}
use Rattle.theory.specs.Term.{Term, Terms, bound, builtin, declared, defined, leaf, literal, param}
use Rattle.theory.specs.Tree.{◌▹◌, count, node, ⟨⟩}
use Rattle.shifting.specs.Shift.{Below, Closes, opened_by, shift, shift_each, shift_one}

-- the brackets that are open after a string
abbrev pub opened_all : ℕ → List ℕ → List Symbol → List ℕ
opened_all b E [] = E
opened_all b E (g ∷ gs) = opened_all b (opened_by b E g) gs

pub opened-append : (b : ℕ) (E : List ℕ) (gs hs : List Symbol) → opened_all b E (gs ++ hs) ≡ opened_all b (opened_all b E gs) hs
opened-append b E [] hs = refl
opened-append b E (g ∷ gs) hs = opened-append b (opened_by b E g) gs hs

pub shift-append : (b : ℕ) (E : List ℕ) (gs hs : List Symbol) → shift E b (gs ++ hs) ≡ shift E b gs ++ shift (opened_all b E gs) b hs
shift-append b E [] hs = refl
shift-append b E (g ∷ gs) hs = ap (λ (l : List Symbol). shift_one E b g ∷ l) (shift-append b (opened_by b E g) gs hs)

-- A string that closes the brackets it opens, and no other.
record Balanced (gs : List Symbol) : Type 0 where
  put : (c : ℕ) (hs : List Symbol) → Closes c hs → Closes c (gs ++ hs)
  dropped : (c : ℕ) (hs : List Symbol) → Closes c (gs ++ hs) → Closes c hs
  opened : (b : ℕ) (E : List ℕ) → opened_all b E gs ≡ E

balanced-none : Balanced []
balanced-none = record { put = λ c hs p. p; dropped = λ c hs p. p; opened = λ b E. refl }

balanced-both : (gs hs : List Symbol) → Balanced gs → Balanced hs → Balanced (gs ++ hs)
balanced-both gs hs p q =
    record {
      put = λ c ks z. subst (Closes c) (sym (append_assoc gs hs ks)) (p.put c (hs ++ ks) (q.put c ks z));
      dropped = λ c ks z. q.dropped c ks (p.dropped c (hs ++ ks) (subst (Closes c) (append_assoc gs hs ks) z));
      opened = λ b E. opened-append b E gs hs ∙ ap (λ (F : List ℕ). opened_all b F hs) (p.opened b E) ∙ q.opened b E;
    }

balanced-bracketed : (n : ℕ) (gs : List Symbol) → Balanced gs → Balanced (bracketed n gs)
balanced-bracketed zero gs p = p
balanced-bracketed (suc n) gs p =
    record {
      put = λ c ks z. (tt, subst (Closes (suc c)) (sym (append_assoc gs (end ∷ []) ks)) (p.put (suc c) (end ∷ ks) (omega arith, subst (λ (d : ℕ). Closes d ks) (sym (less c)) z)));
      dropped = λ c ks z.
          subst (λ (d : ℕ). Closes d ks) (less c) (p.dropped (suc c) (end ∷ ks) (subst (Closes (suc c)) (append_assoc gs (end ∷ []) ks) z.1)).1;
      opened = λ b E. opened-append b (b ∷ E) gs (end ∷ []) ∙ ap (λ (F : List ℕ). drop 1 F) (p.opened b (b ∷ E));
    }
  where
    less : (c : ℕ) → suc c - 1 ≡ c
    less c = omega arith

balanced-chosen : (test : Bool) (gs : List Symbol) → Balanced gs → Balanced (cond test gs [])
balanced-chosen true gs p = p
balanced-chosen false gs p = balanced-none

balanced-one : (g : Symbol) → ((c : ℕ) (hs : List Symbol) → Closes c (g ∷ hs) ≡ (Unit {0} × Closes c hs)) → ((b : ℕ) (E : List ℕ) → opened_by b E g ≡ E)
    → Balanced (g ∷ [])
balanced-one g e f =
    record {
      put = λ c hs p. subst (λ (A : Type 0). A) (sym (e c hs)) (tt, p);
      dropped = λ c hs p. (subst (λ (A : Type 0). A) (e c hs) p).1;
      opened = f;
    }

mutual
  balanced : (σ : ℕ → ℕ) (t : Term) → Balanced (spell σ t)
  balanced σ (node (param i) ts) = balanced-one (par i) (λ c hs. refl) (λ b E. refl)
  balanced σ (node (bound j) ts) = balanced-one (var j) (λ c hs. refl) (λ b E. refl)
  balanced σ (node (declared k x) ts) =
      balanced-both (name x (count ts) ∷ []) (spells σ (binds_in plain) ts) (balanced-one (name x (count ts)) (λ c hs. refl) (λ b E. refl))
      (balanceds σ (binds_in plain) ts)
  balanced σ (node (defined n) ts) =
      balanced-both (call_head (σ n) n) (masked σ (mask_of (σ n)) ts)
      (balanced-chosen (ltb (σ n) alone_shape) (call n ∷ []) (balanced-one (call n) (λ c hs. refl) (λ b E. refl))) (balanced-masked σ (mask_of (σ n)) ts)
  balanced σ (node (builtin c) ts) =
      balanced-both (code c ∷ []) (spells σ (binds_in (code_binder c)) ts) (balanced-one (code c) (λ c hs. refl) (λ b E. refl))
      (balanceds σ (binds_in (code_binder c)) ts)
  balanced σ (node (leaf (literal v)) ts) = balanced-one (number v) (λ c hs. refl) (λ b E. refl)

  balanceds : (σ : ℕ → ℕ) (s : ℕ → ℕ) (ts : Terms) → Balanced (spells σ s ts)
  balanceds σ s ⟨⟩ = balanced-none
  balanceds σ s (t ▹ ts) =
      balanced-both (bracketed (s 0) (spell σ t)) (spells σ (λ i. s (suc i)) ts) (balanced-bracketed (s 0) (spell σ t) (balanced σ t))
      (balanceds σ (λ i. s (suc i)) ts)

  balanced-masked : (σ : ℕ → ℕ) (m : ℕ) (ts : Terms) → Balanced (masked σ m ts)
  balanced-masked σ m ⟨⟩ = balanced-none
  balanced-masked σ m (t ▹ ts) =
      balanced-both (cond (eqb (m % 2) 1) (spell σ t) []) (masked σ (m / 2) ts) (balanced-chosen (eqb (m % 2) 1) (spell σ t) (balanced σ t))
      (balanced-masked σ (m / 2) ts)

pub closes-put : (σ : ℕ → ℕ) (c : ℕ) (t : Term) (hs : List Symbol) → Closes c hs → Closes c (spell σ t ++ hs)
closes-put σ c t hs p = (balanced σ t).put c hs p

pub closes-drop : (σ : ℕ → ℕ) (c : ℕ) (t : Term) (hs : List Symbol) → Closes c (spell σ t ++ hs) → Closes c hs
closes-drop σ c t hs p = (balanced σ t).dropped c hs p

pub closes-spell : (σ : ℕ → ℕ) (t : Term) → Closes 0 (spell σ t)
closes-spell σ t = subst (Closes 0) (append-nil (spell σ t)) (closes-put σ 0 t [] refl)

pub closes-masked : (σ : ℕ → ℕ) (c m : ℕ) (us : Terms) (hs : List Symbol) → Closes c (masked σ m us ++ hs) → Closes c hs
closes-masked σ c m us hs p = (balanced-masked σ m us).dropped c hs p

shift-balanced : (E : List ℕ) (b : ℕ) (gs hs : List Symbol) → Balanced gs → shift E b (gs ++ hs) ≡ shift E b gs ++ shift E b hs
shift-balanced E b gs hs p = shift-append b E gs hs ∙ ap (λ (F : List ℕ). shift E b gs ++ shift F b hs) (p.opened b E)

pub shift-spell : (σ : ℕ → ℕ) (E : List ℕ) (b : ℕ) (t : Term) (hs : List Symbol) → shift E b (spell σ t ++ hs) ≡ shift E b (spell σ t) ++ shift E b hs
shift-spell σ E b t hs = shift-balanced E b (spell σ t) hs (balanced σ t)

pub shift-masked : (σ : ℕ → ℕ) (E : List ℕ) (b m : ℕ) (us : Terms) (hs : List Symbol)
    → shift E b (masked σ m us ++ hs) ≡ shift E b (masked σ m us) ++ shift E b hs
shift-masked σ E b m us hs = shift-balanced E b (masked σ m us) hs (balanced-masked σ m us)

-- k brackets of the string itself, opened when b were open, and those around it
inside : (k j b : ℕ) (E : List ℕ) → j < k → get_or (replicate k b ++ E) j 0 ≡ b
inside k j b E l = get_or-append (replicate k b) E 0 j (rw (length-replicate k b) l) ∙ get_or-replicate k j b 0 l

outside : (k i b : ℕ) (E : List ℕ) → get_or (replicate k b ++ E) (k + i) 0 ≡ get_or E i 0
outside k i b E = ap (λ (n : ℕ). get_or (replicate k b ++ E) (n + i) 0) (sym (length-replicate k b)) ∙ get_or-append-add (replicate k b) E i 0

pub below_at : (b : ℕ) (E : List ℕ) (i : ℕ) → Below b E → get_or E i 0 ≤ b
below_at b [] i w = zero-le
below_at b (e ∷ es) zero w = w.0
below_at b (e ∷ es) (suc i) w = below_at b es i w.1

moved-index : (k c b j : ℕ) (E : List ℕ) → Below b E
    → cond (ltb (j + (b - get_or (replicate k b ++ E) j 0)) k) (j + (b - get_or (replicate k b ++ E) j 0)) (c + (j + (b - get_or (replicate k b ++ E) j 0)))
    ≡ j + (b + c - get_or (replicate k (b + c) ++ E) j 0)
moved-index k c b j E w = go (dec_lt j k)
  where
    go : Dec (j < k)
        → cond (ltb (j + (b - get_or (replicate k b ++ E) j 0)) k) (j + (b - get_or (replicate k b ++ E) j 0)) (c + (j + (b - get_or (replicate k b ++ E) j 0)))
        ≡ j + (b + c - get_or (replicate k (b + c) ++ E) j 0)
    go (yes l) =
        let z : j + (b - b) ≡ j = omega arith in
        let y : j + (b + c - (b + c)) ≡ j = omega arith in
        rw (inside k j b E l, inside k j (b + c) E l, z, y, lt-ltb j k l) refl
    go (no l) =
        let s : k + (j - k) ≡ j = omega arith in
        let p : get_or (replicate k b ++ E) j 0 ≡ get_or E (j - k) 0 = subst (λ (i : ℕ). get_or (replicate k b ++ E) i 0 ≡ get_or E (j - k) 0) s (outside k (j - k) b E) in
        let q : get_or (replicate k (b + c) ++ E) j 0 ≡ get_or E (j - k) 0 =
        subst (λ (i : ℕ). get_or (replicate k (b + c) ++ E) i 0 ≡ get_or E (j - k) 0) s (outside k (j - k) (b + c) E) in
        let m : get_or E (j - k) 0 ≤ b = below_at b E (j - k) w in
        let over : k ≤ j + (b - get_or E (j - k) 0) = omega arith in
        rw (p, q, le-ltb (j + (b - get_or E (j - k) 0)) k over) (omega arith)

-- where k brackets of the string are open
move-inside : (gs : List Symbol) (k c b : ℕ) (E : List ℕ) → Closes k gs → Below b E
    → move c k (shift (replicate k b ++ E) b gs) ≡ shift (replicate k (b + c) ++ E) (b + c) gs
move-inside [] k c b E p w = refl
move-inside (par i ∷ gs) k c b E p w = ap (λ (l : List Symbol). par i ∷ l) (move-inside gs k c b E p.1 w)
move-inside (var j ∷ gs) k c b E p w = ap₂ (λ (n : ℕ) (l : List Symbol). var n ∷ l) (moved-index k c b j E w) (move-inside gs k c b E p.1 w)
move-inside (name x m ∷ gs) k c b E p w = ap (λ (l : List Symbol). name x m ∷ l) (move-inside gs k c b E p.1 w)
move-inside (code d ∷ gs) k c b E p w = ap (λ (l : List Symbol). code d ∷ l) (move-inside gs k c b E p.1 w)
move-inside (number v ∷ gs) k c b E p w = ap (λ (l : List Symbol). number v ∷ l) (move-inside gs k c b E p.1 w)
move-inside (call n ∷ gs) k c b E p w = ap (λ (l : List Symbol). call n ∷ l) (move-inside gs k c b E p.1 w)
move-inside (begin ∷ gs) k c b E p w = ap (λ (l : List Symbol). begin ∷ l) (move-inside gs (suc k) c b E p.1 w)
move-inside (end ∷ gs) zero c b E p w = let l = p.0 in absurd (omega arith)
move-inside (end ∷ gs) (suc k) c b E p w =
    let z : suc k - 1 ≡ k = omega arith in
    let q : Closes k gs = subst (λ (d : ℕ). Closes d gs) z p.1 in
    ap (λ (l : List Symbol). end ∷ l)
    (ap (λ (d : ℕ). move c d (shift (replicate k b ++ E) b gs)) z ∙ move-inside gs k c b E q w)

pub move-shift : (c b : ℕ) (E : List ℕ) (gs : List Symbol) → Closes 0 gs → Below b E → move c 0 (shift E b gs) ≡ shift E (b + c) gs
move-shift c b E gs p w = move-inside gs 0 c b E p w

pub each_at : (E : List ℕ) (b i : ℕ) (args : List (List Symbol)) → get_or (shift_each E b args) i [] ≡ shift E b (get_or args i [])
each_at E b i [] = refl
each_at E b zero (gs ∷ rest) = refl
each_at E b (suc i) (gs ∷ rest) = each_at E b i rest

pub fill-argument : (E : List ℕ) (b c i : ℕ) (args : List (List Symbol)) (gs : List Symbol) → Closes 0 (get_or args i []) → Below b E
    → fill (shift_each E b args) c (par i ∷ gs) ≡ shift E (b + c) (get_or args i []) ++ fill (shift_each E b args) c gs
fill-argument E b c i args gs p w =
    ap (λ (l : List Symbol). l ++ fill (shift_each E b args) c gs) (ap (move c 0) (each_at E b i args) ∙ move-shift c b E (get_or args i []) p w)

pub shift-one-size : (E : List ℕ) (b : ℕ) (g : Symbol) → width_of (shift_one E b g) ≡ width_of g
shift-one-size E b (par i) = refl
shift-one-size E b (var j) = refl
shift-one-size E b (name x k) = refl
shift-one-size E b (code c) = refl
shift-one-size E b (number v) = refl
shift-one-size E b (call n) = refl
shift-one-size E b begin = refl
shift-one-size E b end = refl

pub shift-one-calls : (q : ℕ → Bool) (E : List ℕ) (b : ℕ) (g : Symbol) → calls q (shift_one E b g) ≡ calls q g
shift-one-calls q E b (par i) = refl
shift-one-calls q E b (var j) = refl
shift-one-calls q E b (name x k) = refl
shift-one-calls q E b (code c) = refl
shift-one-calls q E b (number v) = refl
shift-one-calls q E b (call n) = refl
shift-one-calls q E b begin = refl
shift-one-calls q E b end = refl

pub below_more : (b c : ℕ) (E : List ℕ) → b ≤ c → Below b E → Below c E
below_more b c [] l w = tt
below_more b c (e ∷ es) l w = (omega (arith, w.0), below_more b c es l w.1)

below_rest : (b : ℕ) (E : List ℕ) → Below b E → Below b (drop 1 E)
below_rest b [] w = tt
below_rest b (e ∷ es) w = w.1

pub below-after : (b : ℕ) (E : List ℕ) (g : Symbol) → Below b E → Below b (opened_by b E g)
below-after b E (par i) w = w
below-after b E (var j) w = w
below-after b E (name x k) w = w
below-after b E (code c) w = w
below-after b E (number v) w = w
below-after b E (call n) w = w
below-after b E begin w = (omega arith, w)
below-after b E end w = below_rest b E w
