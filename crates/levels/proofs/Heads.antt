-- What each kind of token adds: one lemma for each way through the code.
use mathlib.Core.Path.{◌≡◌, refl, sym, ap, ◌∙◌, subst}
use mathlib.Core.Bool.{Bool, cond, false, true}
use Rattle.std.specs.Prelude.{Option, None, Some}
use mathlib.Core.List.{List, ◌++◌}
use Prim.Native.Nat.{ℕ, zero, suc, ◌+◌, ◌-◌, ◌*◌, ◌/◌, ◌%◌, ◌^◌, ◌≤◌, ◌<◌}
use native.Mathlib.Nat.{div-eq_of_lt, pow-le-pow_right}
use native.Mathlib.Omega.{arith}
use borrow.Author.Tests.{ltb-false}
use lib.Bits.{bit_or, or_zero_r}
use lib.Dec.{eqb, ltb}
use lib.ListN.{get_or}
use Rattle.limits.specs.Limits.{max_definitions}
use Rattle.theory.specs.Lists.{param_levels}
use Rattle.rows.specs.Numbers.{form_size, kind_size, row_number}
use Rattle.rows.proofs.Numbers.{row_count, row-inner, row_low, row-none, row_word}
use Rattle.tokens.specs.Token.{arguments_of, written_of}
use Rattle.tokens.specs.declared.Token.{Token}
use Rattle.tokens.specs.declared.Token.TheVariants.{Parameter, Bound, Name, InstanceOperator, BuiltIn, Literal}
use Rattle.texts.specs.Text.{named, scope}
use Rattle.forms.specs.Labels.{coded, level_of, under, whole}
use Rattle.forms.specs.Forms.{GivesBits, Leads, bits_at, gives, level_at}
use Rattle.forms.proofs.Laws.{or_assoc, under-or, under-zero, whole-digit}
use Rattle.forms.specs.declared.Led.{Led}
use Rattle.forms.proofs.Forms.{coded-at, gives_none}
use Rattle.forms.proofs.Leading.{gives-append, params-length}
use Rattle.forms.proofs.Rows.{row_gives}
use Rattle.levels.specs.declared.steps.Step.{Step}
use Rattle.levels.specs.Tables.{Names, place_of, scene_of}
use Rattle.levels.specs.Walk.{Built, Ended, Headed, Named, Plain, Says, Stepped, Tokened, inner_bits}

-- a bound variable's level
pub bit_past : (bits j : ℕ) → bits < 2 ^ 64 → 64 ≤ j → 0 ≡ bits / 2 ^ j % 2
bit_past bits j h k =
    let p : 2 ^ 64 ≤ 2 ^ j = pow-le-pow_right (omega arith) k in
    let d : bits / 2 ^ j ≡ 0 = div-eq_of_lt (omega arith) in
    rw d

-- nothing is added by no argument
alone : (b : ℕ) (ls : List ℕ) → b ≡ bit_or b (gives 0 ls)
alone b ls = sym (ap (bit_or b) (gives_none ls) ∙ or_zero_r b)

module _ (P bits l f x : ℕ) (r : Step) where
  -- a token without arguments
  ended : (t : Token) → arguments_of t ≡ 0 → scope t bits ≡ bits → (base : List ℕ → ℕ) (m : ℕ) → GivesBits m (λ v. bit_or (bits_at f v) (under l (base v)))
      → Ended bits m x r → ((N : Names) (at : ℕ) → N.outer ≡ P → Says N t at bits base 0) → Plain P t bits l f x r
  ended t c i base m g e says = record {
    anywhere = λ N at o. record {
      count = e.count ∙ sym c;
      inner = e.inner ∙ sym i;
      low = omega (arith, e.inner);
      next = e.next;
      base = base;
      form = subst (λ (y : ℕ). GivesBits y (λ v. bit_or (bits_at f v) (under l (base v)))) (sym e.form) g;
      says = subst (Says N t at bits base) (sym e.labels) (says N at o);
    };
  }

  pub parameter-stepped : (i m : ℕ) → GivesBits m (λ v. bit_or (bits_at f v) (under l (coded (get_or v (P + i) 0)))) → Ended bits m x r → Plain P (Parameter i) bits l f x r
  unfolding Says
  parameter-stepped i m g e =
      ended (Parameter i) refl refl (λ v. coded (get_or v (P + i) 0)) m g e
      (λ N at o v ls h low k a. ap (λ (j : ℕ). coded (get_or v (j + i) 0)) o ∙ alone (coded (get_or v (P + i) 0)) ls)

  bit-coded : (b : ℕ) → b ≤ 1 → whole b ≡ coded b
  unfolding whole level_of
  bit-coded zero h = refl
  bit-coded (suc zero) h = refl
  bit-coded (suc (suc b)) h = absurd (omega arith)

  pub bound-stepped : (j b m : ℕ) → (b ≡ bits / 2 ^ j % 2) × (b ≤ 1) → GivesBits m (λ v. bit_or (bits_at f v) (under l (whole b))) → Ended bits m x r
      → Plain P (Bound j) bits l f x r
  unfolding Says
  bound-stepped j b m (e, h) g d =
      ended (Bound j) refl refl (λ v. whole b) m g d (λ N at o v ls _ _ k a. ap coded (sym e) ∙ sym (bit-coded b h) ∙ alone (whole b) ls)

  pub literal-stepped : (n : ℕ) → Ended bits f x r → Plain P (Literal n) bits l f x r
  unfolding Says
  literal-stepped n e =
      ended (Literal n) refl refl (λ v. 0) f (record { at = λ v h _. sym (ap (bit_or (bits_at f v)) (under-zero l) ∙ or_zero_r (bits_at f v)) }) e
      (λ N at o v ls h low k a. alone 0 ls)

-- a token of form w
pub headed : (w P k e l f x m : ℕ) (led : Led) → GivesBits m (λ v. bit_or (bits_at f v) (under l (whole (w % 8)))) → Leads m l (w / 8) 0 P led
    → Headed w P k e l f x (record { count = k; inner = e; labels = led.labels; form = led.form; next = x })
headed w P k e l f x m led g d = record {
  count = refl;
  inner = refl;
  labels = d.labels;
  form = record {
    at = λ v h low.
        d.form.at v h low
        ∙ ap (λ (y : ℕ). bit_or y (under l (gives (w / 8) (param_levels 0 P v)))) (g.at v h low ∙ ap (λ (y : ℕ). bit_or (bits_at f v) (under l y)) (whole-digit w))
        ∙ or_assoc (bits_at f v) (under l (whole w)) (under l (gives (w / 8) (param_levels 0 P v)))
        ∙ ap (bit_or (bits_at f v)) (sym (under-or l (whole w) (gives (w / 8) (param_levels 0 P v))));
  };
  next = refl;
}

-- the form at the place of a name gives what the scene says of it
pub same_place : (numbers words : List ℕ) (p : ℕ) (ls : List ℕ) → level_at (get_or words (place_of numbers p) 0) ls ≡ named (scene_of numbers words) p ls
same_place numbers words p ls = go (ltb p max_definitions) refl
  where
    go : (b : Bool) → ltb p max_definitions ≡ b
        → level_at (get_or words (cond b (get_or numbers p 0) p) 0) ls
        ≡ cond b (level_at (get_or words (get_or numbers p 0) 0) ls) (level_at (get_or words (max_definitions + (p - max_definitions)) 0) ls)
    go true q = refl
    go false q = let e : p ≡ max_definitions + (p - max_definitions) = omega (arith, ltb-false p max_definitions q) in ap (λ (i : ℕ). level_at (get_or words i 0) ls) e

-- a name's form is that of what it was resolved to
module _ (N : Names) (at bits l f x : ℕ) (r : Step) where
  abbrev word : ℕ
  word = get_or N.words (place_of N.numbers (get_or N.refs at 0)) 0

  named-says : (v ls : List ℕ) → coded (named (scene_of N.numbers N.words) (get_or N.refs at 0) (param_levels 0 N.outer v ++ ls))
      ≡ bit_or (bit_or (whole word) (gives (word / 8) (param_levels 0 N.outer v))) (gives (word / 8 / 8 ^ N.outer) ls)
  unfolding bits_at
  named-says v ls =
      let ps = param_levels 0 N.outer v in
      ap coded (sym (same_place N.numbers N.words (get_or N.refs at 0) (ps ++ ls))) ∙ coded-at word (ps ++ ls)
      ∙ ap (bit_or (whole word)) (gives-append (word / 8) ps ls ∙ ap (λ (n : ℕ). bit_or (gives (word / 8) ps) (gives (word / 8 / 8 ^ n) ls)) (params-length 0 N.outer v))
      ∙ sym (or_assoc (whole word) (gives (word / 8) ps) (gives (word / 8 / 8 ^ N.outer) ls))

  pub name-stepped : (k w : ℕ) → w ≡ word → Headed w N.outer k bits l f x r → Named N k at bits l f x r
  unfolding Says
  name-stepped k w e h =
      record {
        name = λ n. record {
          count = h.count;
          inner = h.inner;
          low = omega (arith, h.inner);
          next = h.next;
          base = λ v. bit_or (whole w) (gives (w / 8) (param_levels 0 N.outer v));
          form = h.form;
          says = λ v ls _ _ c a. named-says v ls ∙ rw (h.labels, e);
        };
        operator = λ i n. record {
          count = h.count;
          inner = h.inner;
          low = omega (arith, h.inner);
          next = h.next;
          base = λ v. bit_or (whole w) (gives (w / 8) (param_levels 0 N.outer v));
          form = h.form;
          says = λ v ls _ _ c a. named-says v ls ∙ rw (h.labels, e);
        };
      }

-- a built-in's form is its row's
module _ (code bits l f x h : ℕ) (eh : h ≡ row_number code) where
  bound-low : h / kind_size < 3 → inner_bits (h / kind_size) bits ≤ bits * 2 + 1
  unfolding inner_bits
  bound-low k = go (eqb (h / kind_size) 0)
    where
      go : (b : Bool) → cond b bits (bits * 2 + (h / kind_size - 1)) ≤ bits * 2 + 1
      go true = omega arith
      go false = omega arith

  row-says : (labels : ℕ) → labels ≡ h % form_size / 8 / 8 ^ 0 → (N : Names) (at : ℕ) → Says N (BuiltIn code) at bits (λ v. bit_or (whole (h % form_size)) 0) labels
  unfolding Says bits_at
  row-says labels e N at v ls _ _ c a =
      let z : h % form_size / 8 / 1 ≡ h % form_size / 8 = omega arith in
      row_gives code ls c a ∙ rw (e, z, row_word code h eh, or_zero_r) refl

  module _ (r : Step) where
    pub built-there : (e : ℕ) → h / kind_size < 3 → e ≡ inner_bits (h / kind_size) bits → Headed (h % form_size) 0 (h / form_size % 4) e l f x r → Built code bits l f x (Some r)
    unfolding inner_bits
    built-there e k ee d = (
      λ z. omega (arith, row_low code h eh k),
      λ N at. record {
        count = d.count ∙ row_count code h eh k;
        inner = d.inner ∙ ee ∙ row-inner code h bits eh k;
        low = rw (d.inner, ee) (bound-low k);
        next = d.next;
        base = λ v. bit_or (whole (h % form_size)) 0;
        form = d.form;
        says = row-says r.labels d.labels N at;
      },
    )

  pub built-lost : 3 ≤ h / kind_size → Built code bits l f x None
  built-lost k = row-none code h eh k

-- any token
module _ (N : Names) (t : Token) (at bits l f x : ℕ) (r : Step) where
  turned : (k : Token) → t ≡ k → Stepped N k at bits l f x r → Stepped N t at bits l f x r
  turned k e s = subst (λ (y : Token). Stepped N y at bits l f x r) (sym e) s

  pub is-parameter : (i : ℕ) → t ≡ Parameter i → Plain N.outer (Parameter i) bits l f x r → Tokened N t at bits l f x (Some r)
  is-parameter i e p = turned (Parameter i) e (p.anywhere N at refl)

  pub is_bound : (j : ℕ) → t ≡ Bound j → Plain N.outer (Bound j) bits l f x r → Tokened N t at bits l f x (Some r)
  is_bound j e p = turned (Bound j) e (p.anywhere N at refl)

  pub is-literal : (n : ℕ) → t ≡ Literal n → Plain N.outer (Literal n) bits l f x r → Tokened N t at bits l f x (Some r)
  is-literal n e p = turned (Literal n) e (p.anywhere N at refl)

  pub is_name_lem : (n k : ℕ) → t ≡ Name n k → Named N k at bits l f x r → Tokened N t at bits l f x (Some r)
  is_name_lem n k e p = turned (Name n k) e (p.name n)

  pub is-operator : (i n k : ℕ) → t ≡ InstanceOperator i n k → Named N k at bits l f x r → Tokened N t at bits l f x (Some r)
  is-operator i n k e p = turned (InstanceOperator i n k) e (p.operator i n)

module _ (N : Names) (t : Token) (at bits l f x : ℕ) where
  pub is-built-in : (r : Option Step) (c : ℕ) → t ≡ BuiltIn c → Built c bits l f x r → Tokened N t at bits l f x r
  is-built-in None c e p = (ap arguments_of e ∙ p, ap written_of e)
  is-built-in (Some r) c e p = turned N t at bits l f x r (BuiltIn c) e (p.1 N at)
