-- A token's own symbols: one lemma for each way through the code.
use mathlib.Core.Bool.{Bool, cond, false, not, true}
use mathlib.Core.List.{List, [], ◌++◌, ◌∷◌, append_assoc, map}
use mathlib.Core.Path.{◌∙◌, ◌≡◌, ap, refl, subst, sym}
use Prim.Native.Nat.{ℕ, zero, suc, ◌+◌, ◌-◌, ◌*◌, ◌/◌, ◌%◌, ◌<◌, ◌≤◌, ◌^◌}
use native.Mathlib.Nat.{one-mul, zero-add}
use native.Mathlib.Numerals.{add-one}
use native.Mathlib.Omega.{arith}
use borrow.Author.Tests.{le-ltb, lt-ltb}
use lib.Dec.{eqb}
use lib.ListN.{get_or}
use lib.Pow.{shl_exact}
use Rattle.limits.specs.Limits.{max_definitions}
use Rattle.theory.specs.Expand.{params_from}
use Rattle.theory.specs.Level.{binds_in, plain}
use Rattle.theory.specs.Lists.{numbers_from}
use Rattle.theory.specs.Term.{Terms, variable}
use Rattle.theory.specs.Tree.{join}
use Rattle.rows.specs.Rows.{binder_of}
use Rattle.tokens.specs.declared.Token.{Token}
use Rattle.tokens.specs.declared.Token.TheVariants.{BuiltIn, Bound, InstanceOperator, Literal, Name, Parameter}
use Rattle.texts.specs.Text.{Declarations, no_declaration}
use Rattle.symbols.specs.Symbol.{Symbol, bytes_of, call, code, name, number, par, var}
use Rattle.symbols.specs.Spell.{alone_shape, call_head, mask_of, masked, shape_limit, spell}
use Rattle.unfolding.specs.InWorld.{declared_in}
use Rattle.spelling.specs.Put.{Put}
use Rattle.spelling.specs.Parts.{is_written, parts}
use Rattle.spelling.specs.Written.{BuiltInPut, Called, Headed, Lead, Led, Named, declarations_in, place_of, shape_in}
use Rattle.spelling.proofs.Putting.{put-append, put-none}
use Rattle.spelling.proofs.Parting.{bytes-append, parts-built-in, parts-masked, parts-plain, parts-zero}

pub written_all : (all : Bool) (m : ℕ) → all ≡ true → true ≡ is_written all m
written_all all m h = rw h

pub written-bit : (all : Bool) (m : ℕ) → all ≡ false → eqb (m % 2) 1 ≡ is_written all m
written-bit all m h = rw h

pub mask-bits : (h : ℕ) → h < alone_shape → h ≡ mask_of h
mask-bits h l = rw (lt-ltb h alone_shape l)

one_shl : (k i : ℕ) → i < k → (1 * 2 ^ i) % 2 ^ k ≡ 2 ^ i
one_shl k i h = shl_exact 1 i k (omega arith) (omega arith) ∙ one-mul (2 ^ i)

pub mask_one : (h : ℕ) → alone_shape ≤ h → h < shape_limit → (1 * 2 ^ (h - alone_shape)) % 2 ^ 64 ≡ mask_of h
mask_one h l g = rw (le-ltb h alone_shape l) (one_shl 64 (h - alone_shape) (omega arith))

-- symbols put after symbols
pub put-symbols : (out : List ℕ) (q : ℕ) (gs : List Symbol) (out₁ : List ℕ) (q₁ : ℕ) (hs : List Symbol) (out₂ : List ℕ) (q₂ : ℕ)
    → Put out q (bytes_of gs) out₁ q₁ → Put out₁ q₁ (bytes_of hs) out₂ q₂ → Put out q (bytes_of (gs ++ hs)) out₂ q₂
put-symbols out q gs out₁ q₁ hs out₂ q₂ f g =
    subst (λ (bs : List ℕ). Put out q bs out₂ q₂) (sym (bytes-append gs hs)) (put-append out q (bytes_of gs) out₁ q₁ (bytes_of hs) out₂ q₂ f g)

module _ (all : Bool) (m i : ℕ) (out : List ℕ) (q : ℕ) (w : Bool) (e : w ≡ is_written all m) where
  pub lead-put : (out' : List ℕ) (q' : ℕ) → w ≡ true → Put out q (bytes_of (par i ∷ [])) out' q' → Lead all m i out q out' q'
  unfolding Lead
  lead-put out' q' h p = rw (sym e ∙ h) p

  pub lead-none : w ≡ false → Lead all m i out q out q
  unfolding Lead
  lead-none h = rw (sym e ∙ h) (put-none out q)

pub led-none : (i p : ℕ) (all : Bool) (m : ℕ) (binds : Bool) (out : List ℕ) (q : ℕ) → p ≡ 0 → binds ≡ false → Led i p all m out q out all m binds q
unfolding parts
led-none i p all m binds out q h e = rw (h, e) (record { put = λ σ. put-none out q; rest = λ σ ts. refl; plain = refl })

led-suc : (i p : ℕ) (all : Bool) (m : ℕ) (out : List ℕ) (q : ℕ) (out₁ : List ℕ) (q₁ : ℕ) (out₂ : List ℕ) (all' : Bool) (m' : ℕ) (binds' : Bool) (q' : ℕ)
    → Lead all m i out q out₁ q₁ → Led (suc i) p all (m / 2) out₁ q₁ out₂ all' m' binds' q' → Led i (suc p) all m out q out₂ all' m' binds' q'
unfolding Lead parts
led-suc i p all m out q out₁ q₁ out₂ all' m' binds' q' l d =
    let one : List Symbol = cond (is_written all m) (par i ∷ []) [] in
    record {
      put = λ σ. put-symbols out q one out₁ q₁ (parts σ all (m / 2) false (params_from (suc i) p)) out₂ q' l (d.put σ);
      rest = λ σ ts. ap (λ (gs : List Symbol). one ++ gs) (d.rest σ ts) ∙ sym (append_assoc one (parts σ all (m / 2) false (params_from (suc i) p)) (parts σ all' m' binds' ts));
      plain = d.plain;
    }

pub led-more : (i p : ℕ) (all : Bool) (m : ℕ) (out : List ℕ) (q : ℕ) (out₁ : List ℕ) (q₁ : ℕ) (a : Bool) (n t : ℕ) (out₂ : List ℕ) (all' : Bool) (m' : ℕ) (binds' : Bool) (q' : ℕ)
    → (p ≡ 0 → ⊥) → Lead all m i out q out₁ q₁ → t ≡ q₁ → a ≡ all → n ≡ m / 2 → Led (i + 1) (p - 1) a n out₁ t out₂ all' m' binds' q'
    → Led i p all m out q out₂ all' m' binds' q'
led-more i zero all m out q out₁ q₁ a n t out₂ all' m' binds' q' h l et ea en d = absurd (h refl)
led-more i (suc p) all m out q out₁ q₁ a n t out₂ all' m' binds' q' h l et ea en d =
    let k : suc p - 1 ≡ p = omega arith in
    led-suc i p all m out q out₁ q₁ out₂ all' m' binds' q' l (rw (et, ea, en, k, add-one i) at d)

pub called-put : (σ : ℕ → ℕ) (outer n h m : ℕ) (out : List ℕ) (q : ℕ) (out₁ : List ℕ) (q₁ : ℕ) (out₂ : List ℕ) (all' : Bool) (m' : ℕ) (binds' : Bool) (q' : ℕ)
    → h ≡ σ n → m ≡ mask_of h → Put out q (bytes_of (call_head h n)) out₁ q₁ → Led 0 outer false m out₁ q₁ out₂ all' m' binds' q'
    → Called σ outer n out q out₂ all' m' binds' q'
called-put σ outer n h m out q out₁ q₁ out₂ all' m' binds' q' eh em p d =
    let lead : List Symbol = parts σ false m false (params_from 0 outer) in
    let f : m ≡ mask_of (σ n) = em ∙ ap mask_of eh in
    record {
      first = call_head (σ n) n ++ lead;
      put = put-symbols out q (call_head (σ n) n) out₁ q₁ lead out₂ q' (subst (λ (x : ℕ). Put out q (bytes_of (call_head x n)) out₁ q₁) eh p) (d.put σ);
      rest = λ ts.
          ap (λ (gs : List Symbol). call_head (σ n) n ++ gs)
          (ap (λ (x : ℕ). masked σ x (join (params_from 0 outer) ts)) (sym f) ∙ parts-masked σ m (join (params_from 0 outer) ts) ∙ d.rest σ ts)
          ∙ sym (append_assoc (call_head (σ n) n) lead (parts σ all' m' binds' ts));
      plain = d.plain;
    }

module _ (σ : ℕ → ℕ) (decls : Declarations) (level outer : ℕ) (numbers : List ℕ) (r k : ℕ) (out : List ℕ) (q : ℕ) (out' : List ℕ) (all : Bool) (m : ℕ) (binds : Bool) (q' : ℕ) where
  pub named-own : (n : ℕ) → r < max_definitions → n ≡ get_or numbers r 0 → Called σ outer n out q out' all m binds q'
      → Named σ decls (place_of level outer numbers) r k out q out' all m binds q'
  named-own n h e c = record {
    first = c.first;
    put = c.put;
    rest = λ ts y. rw (lt-ltb r max_definitions h, ← e) (c.rest ts);
    plain = c.plain;
  }

  pub named-stand-in : (n : ℕ) → max_definitions ≤ r → (level ≡ 0 → ⊥) → n ≡ r + 64 * level → Called σ outer n out q out' all m binds q'
      → Named σ decls (place_of level outer numbers) r k out q out' all m binds q'
  named-stand-in n h z e c = record {
    first = c.first;
    put = c.put;
    rest = λ ts y. rw (le-ltb r max_definitions h) (at level z e ts);
    plain = c.plain;
  }
    where
      at : (l : ℕ) → (l ≡ 0 → ⊥) → n ≡ r + 64 * l → (ts : Terms) → spell σ (declared_in decls l outer r ts) ≡ c.first ++ parts σ all m binds ts
      at zero z e ts = absurd (z refl)
      at (suc l) z e ts = rw (← e) (c.rest ts)

  pub named-declared : (x : ℕ) → max_definitions ≤ r → level ≡ 0 → x ≡ (get_or decls (r - max_definitions) no_declaration).1 → all ≡ true → binds ≡ false
      → Put out q (bytes_of (name x k ∷ [])) out' q' → Named σ decls (place_of level outer numbers) r k out q out' all m binds q'
  named-declared x h z e a b p = record {
    first = name x k ∷ [];
    put = p;
    rest = λ ts y.
        rw (le-ltb r max_definitions h, z, ← e, y, a, b) (ap (λ (gs : List Symbol). name x k ∷ gs) (parts-plain σ (binds_in plain) m ts (λ i. refl)));
    plain = b;
  }

-- the shape of a number
pub shape-kept : (shapes : List ℕ) (n h : ℕ) → h ≡ get_or shapes n 0 → h < shape_limit → h ≡ shape_in shapes n
unfolding shape_in
shape-kept shapes n h e l = rw (← e, lt-ltb h shape_limit l)

pub shape-none : (shapes : List ℕ) (n h : ℕ) → h ≡ get_or shapes n 0 → shape_limit ≤ h → 0 ≡ shape_in shapes n
unfolding shape_in
shape-none shapes n h e l = rw (← e, le-ltb h shape_limit l)

pub call-put : (h n : ℕ) (out : List ℕ) (q : ℕ) (out' : List ℕ) (q' : ℕ) → h < alone_shape → Put out q (bytes_of (call n ∷ [])) out' q'
    → Put out q (bytes_of (call_head h n)) out' q'
call-put h n out q out' q' l p = rw (lt-ltb h alone_shape l) p

pub call-passed : (h n : ℕ) (out : List ℕ) (q : ℕ) → alone_shape ≤ h → Put out q (bytes_of (call_head h n)) out q
call-passed h n out q l = rw (le-ltb h alone_shape l) (put-none out q)

-- the name of a declaration
pub name-shown : (names declared : List ℕ) (d : ℕ) → d < 65536 → get_or names (get_or declared d 0) 0 ≡ (get_or (declarations_in names declared) d no_declaration).1
unfolding declarations_in
name-shown names declared d h = ap (λ (k : ℕ). get_or names (get_or declared k 0) 0) (sym (zero-add d)) ∙ sym (go 0 65536 d h)
  where
    go : (i n k : ℕ) → k < n → (get_or (map (λ (d : ℕ). (variable, get_or names (get_or declared d 0) 0)) (numbers_from i n)) k no_declaration).1 ≡ get_or names (get_or declared (i + k) 0) 0
    go i zero k h = absurd (omega arith)
    go i (suc n) zero h = ap (λ (x : ℕ). get_or names (get_or declared x 0) 0) (omega arith)
    go i (suc n) (suc k) h = go (suc i) n k (omega arith) ∙ ap (λ (x : ℕ). get_or names (get_or declared x 0) 0) (omega arith)

pub name-there : (names declared : List ℕ) (r d o x : ℕ) → d ≡ r - max_definitions → r < 2 ^ 16 → o ≡ get_or declared d 0 → x ≡ get_or names o 0
    → x ≡ (get_or (declarations_in names declared) (r - max_definitions) no_declaration).1
name-there names declared r d o x e l eo ex = ex ∙ rw (eo, e) (name-shown names declared (r - max_definitions) (omega arith))

-- a built-in
pub built-in-put : (c b : ℕ) (binds : Bool) (m : ℕ) (out : List ℕ) (q : ℕ) (out' : List ℕ) (q' : ℕ) → Put out q (4 ∷ c ∷ []) out' q' → b ≡ binder_of c → m ≡ 0
    → binds ≡ not (eqb b 0) → BuiltInPut c out q out' true m binds q'
built-in-put c b binds m out q out' q' p e z h =
    record { put = p; rest = λ σ ts y. rw (z, h, e) (parts-built-in σ c ts y) }

module _ (σ : ℕ → ℕ) (decls : Declarations) (level outer : ℕ) (numbers : List ℕ) (t : Token) (r : ℕ) (out : List ℕ) (q : ℕ) (out' : List ℕ) (all : Bool) (m : ℕ) (binds : Bool) (q' : ℕ) where
  pub headed-name : (n k : ℕ) → t ≡ Name n k → Named σ decls (place_of level outer numbers) r k out q out' all m binds q'
      → Headed σ decls (place_of level outer numbers) t r out q out' all m binds q'
  headed-name n k et d = rw et (record { first = d.first; put = d.put; rest = λ at ts y. d.rest ts y })

  pub headed-instance : (i n k : ℕ) → t ≡ InstanceOperator i n k → Named σ decls (place_of level outer numbers) r k out q out' all m binds q'
      → Headed σ decls (place_of level outer numbers) t r out q out' all m binds q'
  headed-instance i n k et d = rw et (record { first = d.first; put = d.put; rest = λ at ts y. d.rest ts y })

  pub headed-built-in : (c : ℕ) → t ≡ BuiltIn c → BuiltInPut c out q out' all m binds q' → Headed σ decls (place_of level outer numbers) t r out q out' all m binds q'
  headed-built-in c et d = rw et (record { first = code c ∷ []; put = d.put; rest = λ at ts y. ap (λ (gs : List Symbol). code c ∷ gs) (d.rest σ ts y) })

  module _ (p : ℕ) (ep : q' ≡ p) (ea : all ≡ false) (em : m ≡ 0) (eb : binds ≡ false) where
    alone : (g : Symbol) (ts : Terms) → g ∷ [] ≡ (g ∷ []) ++ parts σ all m binds ts
    alone g ts = rw (ea, em, eb, parts-zero σ ts)

    pub headed-parameter : (i j : ℕ) → t ≡ Parameter i → j ≡ outer + i → Put out q (bytes_of (par j ∷ [])) out' p → Headed σ decls (place_of level outer numbers) t r out q out' all m binds q'
    headed-parameter i j et e d = rw et (record { first = par (outer + i) ∷ []; put = rw (ep, ← e) d; rest = λ at ts y. alone (par (outer + i)) ts })

    pub headed-bound : (j : ℕ) → t ≡ Bound j → Put out q (1 ∷ j / 256 ∷ j % 256 ∷ []) out' p → Headed σ decls (place_of level outer numbers) t r out q out' all m binds q'
    headed-bound j et d = rw et (record { first = var j ∷ []; put = rw ep d; rest = λ at ts y. alone (var j) ts })

    pub headed-literal : (v : ℕ) → t ≡ Literal v → Put out q (5 ∷ v / 256 ∷ v % 256 ∷ []) out' p → Headed σ decls (place_of level outer numbers) t r out q out' all m binds q'
    headed-literal v et d = rw et (record { first = number v ∷ []; put = rw ep d; rest = λ at ts y. alone (number v) ts })
