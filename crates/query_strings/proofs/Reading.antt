-- What the walk says and writes, from what it does of the parts: one lemma for each way through its code.
use mathlib.Core.Bool.{Bool, ◌&&◌, cond, false, true}
use mathlib.Core.List.{List}
use mathlib.Core.Path.{◌∙◌, ◌≡◌, ap, refl, subst, sym}
use Prim.Native.Nat.{ℕ, ◌+◌, ◌-◌, ◌*◌, ◌/◌, ◌<◌, ◌≤◌}
use native.Mathlib.Omega.{arith}
use lib.Dec.{eqb, leb}
use lib.ListN.{get_or, length}
use Rattle.std.specs.Prelude.{Option, None, Some}
use Rattle.limits.specs.Limits.{max_arity, max_nesting}
use Rattle.limits.specs.Sizes.{context_length, place_count}
use Rattle.tokens.specs.Expr.{Found, Founds, expr_at, found, none, several}
use Rattle.tokens.specs.Fold.{Algebra, under_of}
use Rattle.tokens.specs.Token.{arguments_of, token_at, width_of}
use Rattle.tokens.specs.declared.Token.{Token}
use Rattle.tokens.proofs.Places.{never}
use Rattle.agree.specs.Folds.{searching}
use Rattle.context.specs.Parts.{part}
use Rattle.context.specs.Entries.{context_codes}
use Rattle.standing.specs.Standing.{itselves}
use Rattle.resolve.specs.Look.{look_in}
use Rattle.resolve.specs.Walk.{inside, number_in, number_of, unknown_in}
use Rattle.resolve.specs.declared.Look.{Look}
use Rattle.resolve.specs.declared.Looked.{Looked}
use Rattle.texts.specs.Text.{Declarations}
use Rattle.skimming.specs.Kept.{KeptWorth}
use Rattle.skimming.specs.Skims.{AllSkimmed, Skimmed}
use Rattle.symbols.specs.Symbol.{bytes_of}
use Rattle.symbols.specs.Spell.{spell}
use Rattle.unfolding.specs.InWorld.{Setting, term_in}
use Rattle.spelling.specs.Parts.{Closed, Opened, is_written}
use Rattle.spelling.specs.Strings.{QueryString, by_context}
use Rattle.spelling.specs.Written.{AllWrote, ArgumentWrote, Headed, Wrote, declarations_in, place_of, shape_in}
use Rattle.spelling.specs.declared.Rest.{Rest}
use Rattle.spelling.proofs.Putting.{paste-past, put-none}
use Rattle.spelling.proofs.Showing.{found-put, spells-text}
use Rattle.spelling.proofs.Walking.{args_more, args_none, argument-wrote, wrote-token}
use Rattle.query_strings.specs.Reads.{AllKept, Joins, Kept, KeptArgument, Over, Reads, ReadsArgument, ReadsHead, Stands, Unwritten}
use Rattle.query_strings.specs.Read.{QueryKept, QueryLength, QueryRead}
use Rattle.query_strings.specs.declared.TokenHead.{TokenHead}
use Rattle.query_strings.specs.declared.Queried.{Queried}
use Rattle.query_strings.specs.declared.Read.{Read}
use Rattle.query_strings.proofs.Skimming.{all_more, all_none, skims-lost, skims-token}
use Rattle.store.specs.declared.Facts.{Facts}

-- a token that nesting reaches
pub stands : (s : List ℕ) (at nest : ℕ) (o : Option Token) (t : Token) (k : ℕ) → o ≡ token_at s at → o ≡ Some t → (nest ≡ 0 → ⊥) → k ≡ arguments_of t → k ≤ max_arity
    → Stands s at nest t k
stands s at nest o t k et there deep ek few = record { token = sym et ∙ there; deep = omega arith; count = ek; few = few }

-- its first symbols
pub head-put : (names : List ℕ) (facts : List Facts) (cs declared numbers shapes : List ℕ) (t : Token) (l : Option Look) (r level outer : ℕ) (rest : Rest) (out : List ℕ) (q : ℕ) (out' : List ℕ) → l ≡ look_in names facts cs t
    → r ≡ number_of l → level ≡ 0 → outer ≡ 0
    → Headed (shape_in shapes) (declarations_in names declared) (place_of level outer numbers) t r out q out' rest.all rest.mask rest.binds rest.to
    → ReadsHead names facts cs declared numbers shapes t out q out' record { look = l; rest = rest }
head-put names facts cs declared numbers shapes t l r level outer rest out q out' el er hl ho h =
    let e : r ≡ number_in names facts cs t = er ∙ ap number_of el in
    record { look = el; put = rw (hl, ho, e) at h }

-- what is read where there is no room, and where nothing is written
module _ (G : Algebra ℕ Bool Bool) (e : ℕ) (look : ℕ → Token → ℕ) (σ : ℕ → ℕ) (decls : Declarations) (P : Setting) where
  wrote-past : (x : Found) (b v : Bool) (y : ℕ) (out : List ℕ) (q to : ℕ) → KeptWorth G e x b v y → b ≡ true → length out < q → to ≡ q
      → Wrote look σ decls P x out q out to y
  unfolding KeptWorth Wrote
  wrote-past (found t n) b v y out q to (k, h) z l et =
      (record { same = sym (paste-past out q (bytes_of (spell σ (term_in look decls P t))) (omega arith)); next = omega arith }, (h z).1)
  wrote-past none b v y out q to k z l et = tt

  wrote-skipped : (x : Found) (b v : Bool) (y k : ℕ) (all : Bool) (m : ℕ) (binds : Bool) (out : List ℕ) (q to : ℕ) → KeptWorth G e x b v y → b ≡ true
      → is_written all m ≡ false → to ≡ q → ArgumentWrote look σ decls P x k all m binds out q out to y
  unfolding KeptWorth ArgumentWrote
  wrote-skipped (found t n) b v y k all m binds out q to (c, h) z w et = (rw (w, et) (put-none out q), (h z).1)
  wrote-skipped none b v y k all m binds out q to c z w et = tt

-- a token one of whose arguments passes a limit
pub reads-lost-token : (names : List ℕ) (facts : List Facts) (cs : List ℕ) (p e n : ℕ) (s : List ℕ) (at : ℕ) (t : Token) (k : ℕ) → Stands s at n t k
    → (start last : ℕ) → start ≡ at + width_of t → last ≡ inside t e → AllSkimmed names facts cs p e last (several (expr_at (n - 1) s) start k) None
    → Skimmed names facts cs p e (expr_at n s at) None
reads-lost-token names facts cs p e n s at t k st start last es el h =
    skims-lost names facts cs p e n s at (token_at s at) refl t st.token (λ (z : n ≡ 0). omega (arith, st.deep)) k st.count (width_of t) refl last el (rw es at h)

module _ (names : List ℕ) (facts : List Facts) (cs declared numbers shapes : List ℕ) (p : ℕ) where
  abbrev look : ℕ → Token → ℕ
  look = by_context names facts cs

  abbrev σ : ℕ → ℕ
  σ = shape_in shapes

  abbrev decls : Declarations
  decls = declarations_in names declared

  abbrev P : Setting
  P = place_of 0 0 numbers

  -- an expression
  module _ (e n : ℕ) (s : List ℕ) (at : ℕ) where
    pub reads-past : (out : List ℕ) (q : ℕ) (r : Option Read) → length out < q → Unwritten names facts cs p e (expr_at n s at) q r
        → Reads names facts cs declared numbers shapes p e (expr_at n s at) out q out r
    reads-past out q None l h = h
    reads-past out q (Some r) l (h, et) = record {
      skims = h;
      wrote = wrote-past (searching (unknown_in names facts cs p)) e look σ decls P (expr_at n s at) true r.looked.unknown r.looked.next out q r.to h.unknown refl l et;
    }

    module _ (t : Token) (k : ℕ) (st : Stands s at n t k) (start last : ℕ) (es : start ≡ at + width_of t) (el : last ≡ inside t e) where
      abbrev args : Founds
      args = several (expr_at (n - 1) s) start k

      deep : n ≡ 0 → ⊥
      deep z = omega (arith, st.deep)

      pub reads-token : (out : List ℕ) (q : ℕ) (out₁ : List ℕ) (h : TokenHead) (out₂ : List ℕ) (a : Read) (x : Looked) → ReadsHead names facts cs declared numbers shapes t out q out₁ h
          → AllKept names facts cs declared numbers shapes p e last args k h.rest out₁ out₂ a → Over t h.look p e a.looked x
          → Kept names facts cs declared numbers shapes p e (expr_at n s at) out q out₂ record { looked = x; to = a.to }
      reads-token out q out₁ h out₂ a x hd h' o =
          let all : AllKept names facts cs declared numbers shapes p e last (several (expr_at (n - 1) s) (at + width_of t) k) k h.rest out₁ out₂ a = rw es at h' in
          record {
            skims = skims-token names facts cs p e n s at (token_at s at) refl t st.token deep k st.count (width_of t) refl last el a.looked x
                all.skims st.few h.look hd.look o;
            wrote = subst (λ (y : ℕ). Wrote look σ decls P (expr_at n s at) out q out₂ a.to y) (sym o.next)
                (wrote-token look σ decls P n s at out q out₂ a.to a.looked.next (token_at s at) t (number_in names facts cs t) (width_of t) k h.rest.all h.rest.mask h.rest.binds out₁ h.rest.to
                deep refl st.token refl hd.put refl st.count all.wrote);
          }

  -- an argument
  module _ (e n : ℕ) (s : List ℕ) (at k : ℕ) (rest : Rest) (out : List ℕ) where
    pub argument-written : (out₁ : List ℕ) (q₁ : ℕ) (out₂ : List ℕ) (a : Read) (out₃ : List ℕ) (to : ℕ) → Opened (is_written rest.all rest.mask) (rest.binds && eqb k 1) out rest.to out₁ q₁
        → Kept names facts cs declared numbers shapes p e (expr_at n s at) out₁ q₁ out₂ a
        → Closed (is_written rest.all rest.mask) (rest.binds && eqb k 1) rest.to out₂ a.to out₃ to
        → KeptArgument names facts cs declared numbers shapes p e (expr_at n s at) k rest out out₃ record { looked = a.looked; to = to }
    argument-written out₁ q₁ out₂ a out₃ to o h c = record {
      skims = h.skims;
      wrote = argument-wrote look σ decls P (expr_at n s at) k rest.all rest.mask rest.binds out rest.to out₁ q₁ out₂ a.to out₃ to a.looked.next o h.wrote c;
    }

    pub argument-skipped : (w : Bool) (r : Option Read) → w ≡ is_written rest.all rest.mask → w ≡ false
        → Unwritten names facts cs p e (expr_at n s at) rest.to r
        → ReadsArgument names facts cs declared numbers shapes p e (expr_at n s at) k rest out out r
    argument-skipped w None ew z h = h
    argument-skipped w (Some r) ew z (h, et) = record {
      skims = h;
      wrote = wrote-skipped (searching (unknown_in names facts cs p)) e look σ decls P (expr_at n s at) true r.looked.unknown r.looked.next k rest.all rest.mask
          rest.binds out rest.to r.to h.unknown refl (sym ew ∙ z) et;
    }

  -- an argument list
  module _ (outer last n : ℕ) (s : List ℕ) (at k : ℕ) (rest : Rest) (out : List ℕ) where
    pub reads_none : (x : Looked) → k ≡ 0 → (x.next ≡ at) × (x.unknown ≡ false) × (x.miscounted ≡ false)
        → AllKept names facts cs declared numbers shapes p outer last (several (expr_at n s) at k) k rest out out record { looked = x; to = rest.to }
    reads_none x z h = record {
      skims = all_none names facts cs p outer last n s at k x z h;
      wrote = subst (λ (i : ℕ). AllWrote look σ decls P (several (expr_at n s) at k) k rest.all rest.mask rest.binds out rest.to out rest.to i) (sym h.0)
          (args_none look σ decls P (expr_at n s) at k rest.all rest.mask rest.binds out rest.to z);
    }

    pub reads_more : (k ≡ 0 → ⊥) → (e : ℕ) (out₁ : List ℕ) (a : Read) → KeptArgument names facts cs declared numbers shapes p e (expr_at n s at) k rest out out₁ a
        → (left : Rest) (out₂ : List ℕ) (b r : Read) → e ≡ under_of k outer last
        → (left.to ≡ a.to) × (left.all ≡ rest.all) × (left.mask ≡ rest.mask / 2) × (left.binds ≡ rest.binds)
        → AllKept names facts cs declared numbers shapes p outer last (several (expr_at n s) a.looked.next (k - 1)) (k - 1) left out₁ out₂ b
        → Joins a.looked b.looked r.looked × (r.to ≡ b.to)
        → AllKept names facts cs declared numbers shapes p outer last (several (expr_at n s) at k) k rest out out₂ r
    reads_more some e out₁ a first left out₂ b r ee (lt, la, lm, lb) h (j, rt) = record {
      skims = all_more names facts cs p outer last n s at k some e ee a.looked first.skims b.looked r.looked h.skims j;
      wrote =
          rw (rt, j.next)
          (args_more look σ decls P k rest.all rest.mask rest.binds out rest.to out₁ a.to out₂ b.to b.looked.next (expr_at n s) at a.looked.next
          left.all left.mask left.binds left.to some first.wrote lt la lm lb h.wrote);
    }

-- the walk from the start on
query-string : (expr names : List ℕ) (facts : List Facts) (cs declared numbers shapes : List ℕ) (out out' : List ℕ) (q' x : ℕ) (fits : Bool) → ((i : ℕ) → get_or expr i 0 < 256)
    → ((i : ℕ) → get_or names i 0 < 65536) → numbers ≡ itselves
    → Wrote (by_context names facts cs) (shape_in shapes) (declarations_in names declared) (place_of 0 0 numbers) (expr_at max_nesting expr 0) out 0 out' q' x
    → fits ≡ leb q' (length out') → length out' ≡ length out → QueryString expr names facts cs declared shapes out' (length out) fits q'
query-string expr names facts cs declared numbers shapes out out' q' x fits bytes names-fit own w f l =
    let e : fits ≡ leb q' (length out) = f ∙ ap (leb q') l in
    let look : ℕ → Token → ℕ = by_context names facts cs in
    let P : Setting = place_of 0 0 itselves in
    let w' : Wrote look (shape_in shapes) (declarations_in names declared) P (expr_at max_nesting expr 0) out 0 out' q' x = rw own at w in
    record {
      string = λ decls t y p below few shown fit narrow.
          spells-text names declared names-fit shapes P out out' q' fits e look expr bytes max_nesting 0 t y p
          (found-put look (shape_in shapes) (declarations_in names declared) P (expr_at max_nesting expr 0) out 0 out' q' x t y p w') decls below few shown fit narrow;
    }

-- where there is no room, any length is as good
no-room : (expr names : List ℕ) (facts : List Facts) (cs declared shapes out : List ℕ) (room l : ℕ) → QueryString expr names facts cs declared shapes out room false l
    → QueryLength expr names facts cs declared shapes out room None
no-room expr names facts cs declared shapes out room l h = λ len. record {
  string = λ decls t e f below few shown fit narrow.
      record { spelt = λ q. never q; short = (h.string decls t e f below few shown fit narrow).short };
}

pub is_read : (expr names : List ℕ) (facts : List Facts) (cs declared numbers shapes : List ℕ) (p : ℕ) (out out' : List ℕ) (a : Read) (len : Option ℕ) → ((i : ℕ) → get_or expr i 0 < 256)
    → ((i : ℕ) → get_or names i 0 < 65536) → numbers ≡ itselves → Kept names facts cs declared numbers shapes p 0 (expr_at max_nesting expr 0) out 0 out' a
    → len ≡ cond (leb a.to (length out')) (Some a.to) None → length out' ≡ length out
    → QueryKept expr names facts cs declared shapes p out' (length out) record { looked = a.looked; len = len }
is_read expr names facts cs declared numbers shapes p out out' a len bytes names-fit own h el l = record {
  skims = h.skims;
  string = rw el (go (leb a.to (length out')) refl);
}
  where
    string : (fits : Bool) → fits ≡ leb a.to (length out') → QueryString expr names facts cs declared shapes out' (length out) fits a.to
    string fits e = query-string expr names facts cs declared numbers shapes out out' a.to a.looked.next fits bytes names-fit own h.wrote e l

    go : (b : Bool) → leb a.to (length out') ≡ b → QueryLength expr names facts cs declared shapes out' (length out) (cond b (Some a.to) None)
    go true e = string true (sym e)
    go false e = no-room expr names facts cs declared shapes out' (length out) a.to (string false (sym e))

-- the codes of a module's context by place
pub in-module : (expr names : List ℕ) (facts : List Facts) (contexts heads declared shapes : List ℕ) (p : ℕ) (out : List ℕ) (room : ℕ) (r : Option Queried) (m from count : ℕ) → from ≡ m * context_length
    → count ≡ get_or heads (place_count + m) 0 → QueryRead expr names facts (part contexts from (from + count - from)) declared shapes p out room r
    → QueryRead expr names facts (context_codes contexts heads m) declared shapes p out room r
in-module expr names facts contexts heads declared shapes p out room r m from count ef ec h =
    let d : from + count - from ≡ count = omega arith in
    subst (λ (cs : List ℕ). QueryRead expr names facts cs declared shapes p out room r)
    (ap (part contexts from) (d ∙ ec) ∙ ap (λ (f : ℕ). part contexts f (get_or heads (place_count + m) 0)) ef) h
