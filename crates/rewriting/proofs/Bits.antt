-- The bits of a shape, the calls of a string filled in, and how the string of a term begins.
use mathlib.Core.Bool.{Bool, ◌||◌, cond, false, true}
use mathlib.Core.List.{List, [], ◌++◌, ◌∷◌}
use mathlib.Core.Path.{◌∙◌, ◌≡◌, ap, refl, sym}
use borrow.Author.Tests.{eq-eqb, eqb-true}
use lib.Dec.{eqb, ltb}
use lib.ListN.{get_or}
use native.Mathlib.Nat.{add-zero}
use native.Mathlib.Omega.{arith}
use Prim.Native.Nat.{ℕ, zero, suc, ◌+◌, ◌-◌, ◌*◌, ◌/◌, ◌%◌, ◌^◌, ◌<◌, ◌≤◌}
use Rattle.strings.specs.Read.{sole_of}
use Rattle.symbols.proofs.Sizes.{any_append, any-right}
use Rattle.symbols.specs.Pieces.{ShapedHead}
use Rattle.symbols.specs.Spell.{alone_shape, mask_of, masked, max_params, occurring, shape_of, spell}
use Rattle.symbols.specs.Symbol.{Symbol, after, begin, call, calls, code, end, fill, fill_one, is_par, move, move_one, name, number, par, sees, var}
use Rattle.theory.proofs.Lists.{or-false}
use Rattle.theory.specs.Expand.{nothing}
use Rattle.theory.specs.Level.{binds_in, plain}
use Rattle.theory.specs.Lists.{any}
use Rattle.theory.specs.Term.{Every, Everys, Term, Terms, bound, builtin, declared, defined, leaf, literal, param}
use Rattle.theory.specs.Tree.{◌▹◌, count, node, nth, ⟨⟩}
use Rattle.rewriting.specs.Ends.{bit_at, places_in, places_of}
use Rattle.unfolding.proofs.Masks.{bit_below, mask-alone, masked-first, masked-later}

pub half : (b : Bool) (o : ℕ) → (cond b 1 0 + 2 * o) / 2 ≡ o
half true o = omega arith
half false o = omega arith

-- a parameter that occurs has its bit
pub occurring-bit : (n i j : ℕ) (gs : List Symbol) → j < n → sees (i + j) gs ≡ true → bit_at j (occurring n i gs) ≡ true
occurring-bit zero i j gs l e = absurd (omega arith)
occurring-bit (suc n) i zero gs l e =
    let s : sees i gs ≡ true = rw (add-zero i) at e in
    let o : ℕ = occurring n (suc i) gs in
    let odd : (1 + 2 * o) % 2 ≡ 1 = omega arith in
    rw (s, odd)
occurring-bit (suc n) i (suc j) gs l e =
    let z : suc i + j ≡ i + suc j = omega arith in
    rw (half (sees i gs) (occurring n (suc i) gs)) (occurring-bit n (suc i) j gs (omega arith) (rw z e))

pub no-bit : (i : ℕ) → bit_at i 0 ≡ false
no-bit zero = refl
no-bit (suc i) = no-bit i

both_false : (a b : Bool) → a ≡ false → b ≡ false → (a || b) ≡ false
both_false a b p q = rw (p, q)

-- neither half of a string has what the whole has not
pub any_none : (p : Symbol → Bool) (xs ys : List Symbol) → any p xs ≡ false → any p ys ≡ false → any p (xs ++ ys) ≡ false
any_none p xs ys e f = any_append p xs ys ∙ both_false (any p xs) (any p ys) e f

pub none_both : (p : Symbol → Bool) (xs ys : List Symbol) → any p (xs ++ ys) ≡ false → (any p xs ≡ false) × (any p ys ≡ false)
none_both p xs ys e = or-false (any p xs) (any p ys) (sym (any_append p xs ys) ∙ e)

-- an argument that stands after a call calls nothing that the string does not
pub masked-calls : (p : Symbol → Bool) (σ : ℕ → ℕ) (us : Terms) (h i : ℕ) → i < count us → any p (masked σ h us) ≡ false → bit_at i h ≡ true
    → any p (spell σ (nth nothing us i)) ≡ false
masked-calls p σ ⟨⟩ h i l e b = absurd (omega arith)
masked-calls p σ (t ▹ ts) h zero l e b =
    let o = none_both p (cond (eqb (h % 2) 1) (spell σ t) []) (masked σ (h / 2) ts) e in
    let z = o.0 in
    rw b at z
masked-calls p σ (t ▹ ts) h (suc i) l e b =
    masked-calls p σ ts (h / 2) i (omega arith) (none_both p (cond (eqb (h % 2) 1) (spell σ t) []) (masked σ (h / 2) ts) e).1 b

move-one-calls : (q : ℕ → Bool) (b c : ℕ) (g : Symbol) → calls q (move_one b c g) ≡ calls q g
move-one-calls q b c (par i) = refl
move-one-calls q b c (var j) = refl
move-one-calls q b c (name x k) = refl
move-one-calls q b c (code k) = refl
move-one-calls q b c (number v) = refl
move-one-calls q b c (call n) = refl
move-one-calls q b c begin = refl
move-one-calls q b c end = refl

move-calls : (q : ℕ → Bool) (b c : ℕ) (gs : List Symbol) → any (calls q) (move b c gs) ≡ any (calls q) gs
move-calls q b c [] = refl
move-calls q b c (g ∷ gs) = rw (move-one-calls q b c g, move-calls q b (after c g) gs)

-- a string with arguments filled in calls what it calls and what the arguments call that occur
module _ (q : ℕ → Bool) (args : List (List Symbol)) where
  one-calls : (c : ℕ) (g : Symbol) → ((i : ℕ) → g ≡ par i → any (calls q) (get_or args i []) ≡ false) → calls q g ≡ false → any (calls q) (fill_one args c g) ≡ false
  one-calls c (par i) h e = move-calls q c 0 (get_or args i []) ∙ h i refl
  one-calls c (var j) h e = refl
  one-calls c (name x k) h e = refl
  one-calls c (code k) h e = refl
  one-calls c (number v) h e = refl
  one-calls c (call n) h e = rw e
  one-calls c begin h e = refl
  one-calls c end h e = refl

  pub fill-calls : (gs : List Symbol) (c : ℕ) → ((i : ℕ) → sees i gs ≡ true → any (calls q) (get_or args i []) ≡ false) → any (calls q) gs ≡ false
      → any (calls q) (fill args c gs) ≡ false
  fill-calls [] c h e = refl
  fill-calls (g ∷ gs) c h e =
      let o = or-false (calls q g) (any (calls q) gs) e in
      any_none (calls q) (fill_one args c g) (fill args (after c g) gs) (one-calls c g here o.0) (fill-calls gs (after c g) there o.1)
    where
      here : (i : ℕ) → g ≡ par i → any (calls q) (get_or args i []) ≡ false
      here i p = h i (ap (λ (b : Bool). b || sees i gs) (ap (is_par i) p ∙ eq-eqb i i refl))

      there : (i : ℕ) → sees i gs ≡ true → any (calls q) (get_or args i []) ≡ false
      there i s = h i (any-right (is_par i) (g ∷ []) gs s)

-- The string of a term has a first symbol; if it is a parameter, nothing follows.
abbrev pub Starts : List Symbol → Type 0
Starts [] = ⊥
Starts (par i ∷ []) = Unit {0}
Starts (par i ∷ g ∷ gs) = ⊥
Starts (var j ∷ gs) = Unit {0}
Starts (name x k ∷ gs) = Unit {0}
Starts (code c ∷ gs) = Unit {0}
Starts (number v ∷ gs) = Unit {0}
Starts (call n ∷ gs) = Unit {0}
Starts (begin ∷ gs) = Unit {0}
Starts (end ∷ gs) = Unit {0}

starts-call : (σ : ℕ → ℕ) (n : ℕ) (ts : Terms) (b : Bool) → ltb (σ n) alone_shape ≡ b → (b ≡ false → Starts (masked σ (mask_of (σ n)) ts))
    → Starts (cond b (call n ∷ []) [] ++ masked σ (mask_of (σ n)) ts)
starts-call σ n ts true e f = tt
starts-call σ n ts false e f = f refl

passed : (σ : ℕ → ℕ) (n : ℕ) (ts : Terms) → mask_of (σ n) < 2 ^ count ts → ((j : ℕ) → j < count ts → Starts (masked σ (2 ^ j) ts)) → ltb (σ n) alone_shape ≡ false
    → Starts (masked σ (mask_of (σ n)) ts)
passed σ n ts b f e =
    let z : mask_of (σ n) ≡ 2 ^ (σ n - alone_shape) = mask-alone (σ n) e in
    let l : σ n - alone_shape < count ts = bit_below (σ n - alone_shape) (count ts) (rw z at b) in
    rw z (f (σ n - alone_shape) l)

mutual
  pub starts : (t : Term) (σ : ℕ → ℕ) (k : ℕ) → Every (ShapedHead σ) k t → Starts (spell σ t)
  starts (node (param i) ts) σ k w = tt
  starts (node (bound j) ts) σ k w = tt
  starts (node (declared d x) ts) σ k w = tt
  starts (node (defined n) ts) σ k w =
      starts-call σ n ts (ltb (σ n) alone_shape) refl (λ f. passed σ n ts w.0.0 (λ j l. starts-one ts σ j k (binds_in plain) l w.1) f)
  starts (node (builtin c) ts) σ k w = tt
  starts (node (leaf (literal v)) ts) σ k w = tt

  starts-one : (ts : Terms) (σ : ℕ → ℕ) (j k : ℕ) (s : ℕ → ℕ) → j < count ts → Everys (ShapedHead σ) k s ts → Starts (masked σ (2 ^ j) ts)
  starts-one ⟨⟩ σ j k s l w = absurd (omega arith)
  starts-one (t ▹ ts) σ zero k s l w = rw (masked-first σ t ts) (starts t σ (s 0 + k) w.0)
  starts-one (t ▹ ts) σ (suc j) k s l w = rw (masked-later σ j t ts) (starts-one ts σ j k (λ i. s (suc i)) (omega arith) w.1)

-- how a string begins that a call is replaced by: with a symbol of the text, which is no call of it
pub record Begins (n : ℕ) (gs : List Symbol) : Type 0 where
  pub first : Symbol
  pub more : List Symbol
  pub whole : gs ≡ first ∷ more
  pub other : calls (eqb n) first ≡ false
  pub sole : sole_of (first ∷ []) ≡ 0

pub fill_begins : (n : ℕ) (args : List (List Symbol)) (gs : List Symbol) → Starts gs → shape_of gs < alone_shape → any (calls (eqb n)) gs ≡ false → Begins n (fill args 0 gs)
fill_begins n args [] s l f = absurd s
fill_begins n args (par i ∷ []) s l f = absurd (omega arith)
fill_begins n args (par i ∷ g ∷ gs) s l f = absurd s
fill_begins n args (var j ∷ gs) s l f = record { first = var j; more = fill args 0 gs; whole = refl; other = refl; sole = refl }
fill_begins n args (name x k ∷ gs) s l f = record { first = name x k; more = fill args 0 gs; whole = refl; other = refl; sole = refl }
fill_begins n args (code c ∷ gs) s l f = record { first = code c; more = fill args 0 gs; whole = refl; other = refl; sole = refl }
fill_begins n args (number v ∷ gs) s l f = record { first = number v; more = fill args 0 gs; whole = refl; other = refl; sole = refl }
fill_begins n args (call k ∷ gs) s l f =
    record { first = call k; more = fill args 0 gs; whole = refl; other = (or-false (eqb n k) (any (calls (eqb n)) gs) f).0; sole = refl }
fill_begins n args (begin ∷ gs) s l f = record { first = begin; more = fill args 1 gs; whole = refl; other = refl; sole = refl }
fill_begins n args (end ∷ gs) s l f = record { first = end; more = fill args 0 gs; whole = refl; other = refl; sole = refl }

-- the shape of what is no parameter alone is the bits of those that occur
pub shape-bits : (gs : List Symbol) → shape_of gs < alone_shape → shape_of gs ≡ occurring max_params 0 gs
shape-bits [] l = refl
shape-bits (par i ∷ []) l = absurd (omega arith)
shape-bits (par i ∷ g ∷ gs) l = refl
shape-bits (var j ∷ gs) l = refl
shape-bits (name x k ∷ gs) l = refl
shape-bits (code c ∷ gs) l = refl
shape-bits (number v ∷ gs) l = refl
shape-bits (call k ∷ gs) l = refl
shape-bits (begin ∷ gs) l = refl
shape-bits (end ∷ gs) l = refl

-- a shape speaks of no more arguments than it has places, and those are not more than there may be
places-few : (f h : ℕ) → places_in f h ≤ f
places-few zero h = omega arith
places-few (suc f) h = go (eqb h 0) (places-few f (h / 2))
  where
    go : (b : Bool) → places_in f (h / 2) ≤ f → cond b 0 (suc (places_in f (h / 2))) ≤ suc f
    go true l = omega arith
    go false l = omega arith

places-enough : (f h : ℕ) → h < 2 ^ f → h < 2 ^ places_in f h
places-enough zero h l = l
places-enough (suc f) h l = go (eqb h 0) refl (places-enough f (h / 2) (omega arith))
  where
    go : (b : Bool) → eqb h 0 ≡ b → h / 2 < 2 ^ places_in f (h / 2) → h < 2 ^ cond b 0 (suc (places_in f (h / 2)))
    go true e k = omega (arith, eqb-true h 0 e)
    go false e k = doubled (places_in f (h / 2)) k
      where
        doubled : (p : ℕ) → h / 2 < 2 ^ p → h < 2 ^ suc p
        doubled p q = omega arith

pub places-cover : (h : ℕ) → h < alone_shape → (h < 2 ^ places_of h) × (places_of h ≤ max_params)
unfolding places_of
places-cover h l = (places-enough max_params h l, places-few max_params h)
