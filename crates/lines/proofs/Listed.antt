-- The text by the store and the forms is the rules' listing of the state that they show.
use borrow.Author.Tests.{le-ltb}
use mathlib.Core.Bool.{Bool, cond}
use mathlib.Core.List.{List, [], ◌++◌, ◌∷◌, append_assoc, append-nil}
use mathlib.Core.Path.{◌∙◌, ◌≡◌, ap, ap₂, refl, subst, sym}
use Prim.Native.Nat.{ℕ, zero, suc, ◌+◌, ◌≤◌, ◌<◌}
use native.Mathlib.Nat.{zero-add}
use native.Mathlib.Omega.{arith}
use lib.ListN.{get_or, length}
use Rattle.limits.specs.Limits.{max_arity, max_definitions}
use Rattle.theory.proofs.Cards.{card-same}
use Rattle.theory.proofs.Lists.{at_all}
use Rattle.theory.specs.Card.{card_of}
use Rattle.rules.specs.Listing.{decimal, definition_line, definition_lines, hexadecimal, instance_name, line, listing}
use Rattle.rules.specs.Run.{result}
use Rattle.rules.specs.State.{Added, State, card_level, definition_at, no_definition, params_of}
use Rattle.laws.proofs.Within.{Within}
use Rattle.texts.specs.Text.{Declarations}
use Rattle.forms.specs.Forms.{form_at, level_at}
use Rattle.levels.proofs.Numbered.{numbers-at}
use Rattle.levels.specs.Tables.{scene_of}
use Rattle.text_levels.proofs.OwnWorld.{Shows}
use Rattle.context.specs.Holds.{Holds}
use Rattle.context.specs.Lookup.{arity_at}
use Rattle.context.specs.Entries.{described_as, path_of}
use Rattle.store.specs.Store.{kind_at, via_at}
use Rattle.store.specs.declared.Store.{Store}
use Rattle.store.specs.declared.Facts.{Facts}
use Rattle.context.specs.declared.Counts.{Counts}
use Rattle.standing.specs.Standing.{itselves}
use Rattle.lines.specs.Text.{card_digits, line_at, lines_of, text_of}

-- a path of one name at most
path-name : (n : ℕ) → instance_name (path_of n) ≡ n
path-name zero = refl
path-name (suc n) = refl

-- lines after those of the first k definitions
module _ (names : List ℕ) (facts : List Facts) (words : List ℕ) (s : State) where
  lines_split : (k : ℕ) (ds : List Added) → ((i : ℕ) → i < length ds → line_at names facts words (k + i) ≡ definition_line s (k + i) (get_or ds i no_definition))
      → lines_of names facts words (k + length ds) ≡ lines_of names facts words k ++ definition_lines s k ds
  lines_split k [] h = ap (lines_of names facts words) (let z : k + 0 ≡ k = omega arith in z) ∙ sym (append-nil (lines_of names facts words k))
  lines_split k (d ∷ ds) h =
      let z : k + suc (length ds) ≡ suc k + length ds = omega arith in
      let o : k + 0 ≡ k = omega arith in
      ap (lines_of names facts words) z
      ∙ lines_split (suc k) ds
      (λ i l. subst (λ (j : ℕ). line_at names facts words j ≡ definition_line s j (get_or ds i no_definition)) (let y : k + suc i ≡ suc k + i = omega arith in y) (h (suc i) (omega arith)))
      ∙ append_assoc (lines_of names facts words k) (line_at names facts words k) (definition_lines s (suc k) ds)
      ∙ ap (λ (x : List ℕ). lines_of names facts words k ++ (x ++ definition_lines s (suc k) ds))
      (subst (λ (j : ℕ). line_at names facts words j ≡ definition_line s j d) o (h 0 (omega arith)))

module _ (v : Store) (words : List ℕ) (s : State) (decls : Declarations)
    (described : (g : ℕ) → g < length s.definitions → described_as v g (definition_at s g).meaning ≡ definition_at s g)
    (small : Within s) (forms : Shows (scene_of itselves words) decls s) where
  line-right : (g : ℕ) → g < length s.definitions → line_at v.names v.facts words g ≡ definition_line s g (definition_at s g)
  unfolding line_at
  line-right g l =
      let told = described g l in
      let k : kind_at v.facts g ≡ params_of s g = ap (λ (d : Added). d.params) told in
      let few : params_of s g ≤ max_arity = at_all (λ d. d.params ≤ max_arity) s.definitions g no_definition small.params l in
      let same : arity_at v.facts g ≡ params_of s g = ap (λ (b : Bool). cond b 0 (kind_at v.facts g)) (le-ltb max_arity (kind_at v.facts g) (omega arith)) ∙ k in
      let at : g ≡ get_or itselves g 0 = sym (zero-add g) ∙ numbers-at 0 max_definitions g (omega (arith, small.definitions)) in
      let named : get_or v.names g 0 ≡ (definition_at s g).name = ap (λ (d : Added). d.name) told in
      let via : via_at v.facts g ≡ instance_name (definition_at s g).path = sym (path-name (via_at v.facts g)) ∙ ap (λ (d : Added). instance_name d.path) told in
      let card : card_digits (params_of s g) (level_at (form_at words g)) ≡ hexadecimal (card_of (params_of s g) (card_level s g)) =
      ap hexadecimal
      (card-same (params_of s g) (level_at (form_at words g)) (card_level s g) (λ us n a. ap (λ (j : ℕ). level_at (form_at words j) us) at ∙ forms.definitions g us l n a)) in
      ap₂ (λ (i n : ℕ). line (decimal g ∷ decimal i ∷ decimal n ∷ decimal (arity_at v.facts g) ∷ card_digits (arity_at v.facts g) (level_at (form_at words g)) ∷ [])) via named
      ∙ ap
      (λ (n : ℕ). line (decimal g ∷ decimal (instance_name (definition_at s g).path) ∷ decimal (definition_at s g).name ∷ decimal n ∷ card_digits n (level_at (form_at words g)) ∷ []))
      same
      ∙ ap
      (λ (e : List ℕ). line (decimal g ∷ decimal (instance_name (definition_at s g).path) ∷ decimal (definition_at s g).name ∷ decimal (params_of s g) ∷ e ∷ []))
      card

  -- "First line: `ok`, number of definitions. Then one line each"
  pub text-shown : text_of v.names v.facts words (length s.definitions) ≡ listing (result s)
  text-shown =
      let n = length s.definitions in
      let lines : lines_of v.names v.facts words n ≡ definition_lines s 0 s.definitions =
      ap (lines_of v.names v.facts words) (sym (zero-add n))
      ∙ lines_split v.names v.facts words s 0 s.definitions
      (λ i l. subst (λ (j : ℕ). line_at v.names v.facts words j ≡ definition_line s j (definition_at s i)) (sym (zero-add i)) (line-right i l)) in
      ap (λ (x : List ℕ). line ((111 ∷ 107 ∷ []) ∷ decimal n ∷ []) ++ x) lines

-- the same where the store shows the state
pub text-listed : (v : Store) (c : Counts) (s : State) (words : List ℕ) (decls : Declarations) → Holds v c s → Within s → Shows (scene_of itselves words) decls s
    → text_of v.names v.facts words c.definitions ≡ listing (result s)
text-listed v c s words decls shown small forms =
    ap (text_of v.names v.facts words) shown.definitions
    ∙ text-shown v words s decls (λ g l. shown.described g (subst (λ (n : ℕ). g < n) (sym shown.definitions) l)) small forms
