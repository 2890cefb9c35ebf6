-- What the numbers of calls say along a chain.
use borrow.Author.Tests.{le-ltb, lt-ltb}
use mathlib.Core.Bool.{Bool, cond, false}
use mathlib.Core.List.{List, [], ◌++◌, ◌∷◌}
use mathlib.Core.Logic.{inl, inr}
use mathlib.Core.Option.{Option, some}
use mathlib.Core.Path.{◌∙◌, ◌≡◌, ap, ap₂, refl, subst, sym}
use lib.Dec.{ltb}
use lib.ListN.{drop, get_or, length, length-append, length-drop}
use lib.Seq.{drop_at}
use native.Mathlib.Omega.{arith}
use Prim.Native.Nat.{◌+◌, ◌-◌, ◌<◌, ◌≤◌, ℕ}
use Rattle.limits.specs.Limits.{max_declarations, max_definitions}
use Rattle.theory.specs.Expand.{arities_of}
use Rattle.theory.specs.Term.{Reading, kind_arity}
use Rattle.rules.specs.State.{State, templates_of}
use Rattle.texts.specs.Text.{Declarations, no_declaration}
use Rattle.worlds.specs.World.{World, params_in}
use Rattle.chains.proofs.Knowing.{NamedIn}
use Rattle.unfolding.specs.InWorld.{stand_in}
use Rattle.unfolding.specs.Meaning.{meaning_of}
use Rattle.unfolding.specs.StandIn.{Callable, StandInOf, arities_along, called_in, entry_of, level_of, outermost, stands_for}
use Rattle.unfolding.proofs.TextFormed.{StandInsKnown}
use Rattle.unfolding.proofs.TextLaw.{StandIns}

pub outermost-at : (w u v : World) (l : ℕ) → w ≡ u ++ v → l ≡ length v → outermost l w ≡ v
outermost-at w u v l e q =
    let h : length w ≡ length (u ++ v) = ap (λ (x : World). length x) e in
    let k : length w - l ≡ length u = omega (arith, h, length-append u v) in
    ap₂ (λ (k : ℕ) (x : World). drop k x) k e ∙ drop_at u v (length u) refl

pub standin-level : (l e : ℕ) → e < max_declarations → level_of (stand_in l (max_definitions + e)) ≡ l
standin-level l e h = omega arith

pub standin-entry : (l e : ℕ) → e < max_declarations → entry_of (stand_in l (max_definitions + e)) ≡ e
standin-entry l e h = omega arith

standin-high : (l e : ℕ) → ltb (stand_in l (max_definitions + e)) max_definitions ≡ false
standin-high l e = le-ltb (stand_in l (max_definitions + e)) max_definitions (omega arith)

module _ (s : State) (decls : Declarations) (w : World) where
  pub called-defined : {A : Type 0} (M : Reading A) (n : ℕ) (vs : List A) → n < max_definitions → called_in M s decls w n vs ≡ meaning_of M s n vs
  called-defined M n vs h =
      ap (λ (b : Bool). cond b (meaning_of M s n vs) (stands_for M s (outermost (level_of n) w) (get_or decls (entry_of n) no_declaration) vs)) (lt-ltb n max_definitions h)

  pub arity-defined : (n : ℕ) → n < max_definitions → arities_along s decls w n ≡ arities_of (templates_of s) n
  arity-defined n h =
      ap {B = Option ℕ}
      (λ (b : Bool). cond b (arities_of (templates_of s) n) (some (params_in (outermost (level_of n) w) + kind_arity (get_or decls (entry_of n) no_declaration).0))) (lt-ltb n max_definitions h)

  module _ (u v : World) (split : w ≡ u ++ v) (e : ℕ) (few : e < max_declarations) where
    abbrev n : ℕ
    n = stand_in (length v) (max_definitions + e)

    at_level : outermost (level_of n) w ≡ v
    at_level = outermost-at w u v (level_of n) split (standin-level (length v) e few)

    pub called-standin : {A : Type 0} (M : Reading A) (vs : List A) → called_in M s decls w n vs ≡ stands_for M s v (get_or decls e no_declaration) vs
    called-standin M vs =
        ap (λ (b : Bool). cond b (meaning_of M s n vs) (stands_for M s (outermost (level_of n) w) (get_or decls (entry_of n) no_declaration) vs)) (standin-high (length v) e)
        ∙ ap₂ (λ (x : World) (i : ℕ). stands_for M s x (get_or decls i no_declaration) vs) at_level (standin-entry (length v) e few)

    pub arity-standin : arities_along s decls w n ≡ some (params_in v + kind_arity (get_or decls e no_declaration).0)
    arity-standin =
        ap {B = Option ℕ}
        (λ (b : Bool). cond b (arities_of (templates_of s) n) (some (params_in (outermost (level_of n) w) + kind_arity (get_or decls (entry_of n) no_declaration).0))) (standin-high (length v) e)
        ∙ ap₂ (λ (x : World) (i : ℕ). some (params_in x + kind_arity (get_or decls i no_declaration).0)) at_level (standin-entry (length v) e few)

  -- so the calls of a text in any world along the chain
  pub stand-ins : {A : Type 0} (M : Reading A) → length decls ≤ max_declarations → (u v : World) → w ≡ u ++ v
      → StandIns M (meaning_of M s) (called_in M s decls w) decls (NamedIn decls v) v
  stand-ins M few u [] split = tt
  stand-ins M few u (l ∷ v) split = λ e i vs. called-standin u (l ∷ v) split e (omega (arith, i.0)) M vs

  pub stand-ins-known : (D : ℕ) → length decls ≤ max_declarations → (u v : World) → w ≡ u ++ v
      → StandInsKnown (arities_along s decls w) (Callable decls D v) decls (NamedIn decls v) v
  stand-ins-known D few u [] split = tt
  stand-ins-known D few u (l ∷ v) split =
      λ e i. (arity-standin u (l ∷ v) split e (omega (arith, i.0)), inr (record { entry = e; number = refl; named = i }))

  -- what is below D may be called everywhere
  pub callable-below : (D : ℕ) (v : World) (n : ℕ) → n < D → Callable decls D v n
  callable-below D [] n h = h
  callable-below D (l ∷ v) n h = inl h

pub outermost-length : (l : ℕ) (w : World) → l ≤ length w → length (outermost l w) ≡ l
outermost-length l w h = length-drop (length w - l) w ∙ omega arith

-- what the number of a stand-in says
pub record StandInNumber (decls : Declarations) (w : World) (l n : ℕ) : Type 0 where
  pub high : max_definitions ≤ n
  pub level : level_of n ≡ l
  pub number : n ≡ stand_in l (max_definitions + entry_of n)
  pub named : NamedIn decls (outermost l w) (entry_of n)

pub standin-number : (decls : Declarations) (w : World) (l n : ℕ) → length decls ≤ max_declarations → l ≤ length w → StandInOf decls (outermost l w) n
    → StandInNumber decls w l n
standin-number decls w l n few h x =
    let e = x.entry in
    let fe : e < max_declarations = omega (arith, x.named.0) in
    let q : n ≡ stand_in l (max_definitions + e) = x.number ∙ ap (λ (j : ℕ). stand_in j (max_definitions + e)) (outermost-length l w h) in
    let z : entry_of n ≡ e = ap entry_of q ∙ standin-entry l e fe in
    record {
      high = omega (arith, q);
      level = ap level_of q ∙ standin-level l e fe;
      number = q ∙ ap (λ (j : ℕ). stand_in l (max_definitions + j)) (sym z);
      named = subst (NamedIn decls (outermost l w)) (sym z) x.named;
    }
