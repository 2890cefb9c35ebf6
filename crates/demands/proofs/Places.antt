-- How large replies are: the number of definitions, the places of refusals, and the parts of the file that bodies are.
use mathlib.Core.List.{List, [], ◌++◌, ◌∷◌}
use mathlib.Core.Logic.{inl, inr}
use mathlib.Core.Path.{◌∙◌, ◌≡◌, ap}
use Prim.Native.Nat.{ℕ, ◌+◌, ◌≤◌}
use native.Mathlib.Omega.{arith}
use lib.ListN.{length, length-append}
use Rattle.limits.specs.Limits.{file_bytes, max_definitions}
use Rattle.rules.specs.Bytes.{write_all}
use Rattle.rules.specs.Expression.{expression}
use Rattle.rules.specs.Field.{Field, definition, field, write_field}
use Rattle.rules.specs.Query.{alike_query, body_query, expansion_query, level_query}
use Rattle.rules.specs.Run.{checked, file_check, refusal, result}
use Rattle.rules.specs.State.{Added, State, definition_at, start}
use Rattle.laws.specs.Lawful.{Spells, adds}
use Rattle.laws.proofs.Body.{adds_bytes, from_place}
use Rattle.laws.specs.Bodies.{Body}
use Rattle.laws.proofs.Checks.{by-fields, lawful-when-accepted}
use Rattle.laws.proofs.Replies.{and_then-result, result-injective}
use Rattle.laws.proofs.Within.{within-file}
use Rattle.laws.proofs.FileRefusals.{and_then-refusal, fields-short, file-place, not-refusal}
use Rattle.laws.proofs.QueryRefusals.{Refuses, alike_refused, body_refused, by_file, by_query, expansion_refused, level_refused}
use Rattle.laws.specs.Queries.{AlikeRefused, BodyRefused, ExpansionRefused, LevelRefused, TermRefused, at_fault, no-module}
use Rattle.laws.proofs.QueryReplies.{body-exact}

-- CHECK
pub definitions-few : (file memory : List ℕ) (n : ℕ) → (file_check file memory).reply ≡ result n → n ≤ max_definitions
definitions-few file memory n e =
    and_then-result (checked file memory) (λ s. result (length s.definitions)) n e λ s a i.
    omega (arith, result-injective i, (within-file file s (by-fields file memory s a)).definitions)

pub check-place : (file memory : List ℕ) (c p : ℕ) → (file_check file memory).reply ≡ refusal c p → p ≤ file_bytes
check-place file memory c p e =
    and_then-refusal (checked file memory) (λ s. result (length s.definitions)) c p e (λ q. file-place file memory c p q)
    (λ s a i. not-refusal (length s.definitions) c p i)

pub not_over : (file memory : List ℕ) (s : State) → checked file memory ≡ result s → length file ≤ file_bytes
not_over file memory s a = (lawful-when-accepted file memory s a).0.not_over

few-fields : (file memory : List ℕ) (s : State) (fs : List Field) → checked file memory ≡ result s → Spells fs file → length fs ≤ file_bytes
few-fields file memory s fs a w = omega (arith, fields-short fs, ap length w.1, not_over file memory s a)

-- where the query's own refusals stand no further than the number of fields, each refusal's place is within the file's limit
query-place : (file memory : List ℕ) (Own : State → ℕ → ℕ → ℕ → Type 0) → ((s : State) (k c p : ℕ) → Own s k c p → p ≤ k)
    → (c p : ℕ) → Refuses file memory Own c p → p ≤ file_bytes
query-place file memory Own near c p (by_file e) = file-place file memory c p e
query-place file memory Own near c p (by_query s fs a w o) = omega (arith, near s (length fs) c p o, few-fields file memory s fs a w)

term-place : (s : State) (k m n : ℕ) (levels bytes : List ℕ) (c p : ℕ) → TermRefused s k m n levels bytes c p → p ≤ k
term-place s k m n levels bytes c p (no-module q u v) = omega arith
term-place s k m n levels bytes c p (at_fault M q r v) = omega arith

pub level-place : (file memory : List ℕ) (m : ℕ) (levels bytes : List ℕ) (c p : ℕ) → (level_query file memory m levels bytes).reply ≡ refusal c p → p ≤ file_bytes
level-place file memory m levels bytes c p e =
    query-place file memory (LevelRefused m levels bytes) (λ s k c p r. term-place s k m (length levels) levels bytes c p r) c p
    ((level_refused file memory m levels bytes c p).0 e)

expansion-own : (s : State) (k m n : ℕ) (bytes : List ℕ) (room c p : ℕ) → ExpansionRefused m n bytes room s k c p → p ≤ k
expansion-own s k m n bytes room c p (inl r) = term-place s k m n [] bytes c p r
expansion-own s k m n bytes room c p (inr r) = omega (arith, r.place)

pub expansion-place : (file memory : List ℕ) (m n : ℕ) (bytes output : List ℕ) (c p : ℕ) → (expansion_query file memory m n bytes output).reply ≡ refusal c p → p ≤ file_bytes
expansion-place file memory m n bytes output c p e =
    query-place file memory (ExpansionRefused m n bytes (length output)) (λ s k c p r. expansion-own s k m n bytes (length output) c p r) c p
    ((expansion_refused file memory m n bytes output c p).0 e)

pub alike-place : (file memory : List ℕ) (g h c p : ℕ) → (alike_query file memory g h).reply ≡ refusal c p → p ≤ file_bytes
alike-place file memory g h c p e =
    query-place file memory (AlikeRefused g h) (λ s k c p r. let z = r.2 in omega (arith, z)) c p ((alike_refused file memory g h c p).0 e)

pub body-place : (file memory : List ℕ) (g c p : ℕ) → (body_query file memory g).reply ≡ refusal c p → p ≤ file_bytes
body-place file memory g c p e =
    query-place file memory (BodyRefused g) (λ s k c p r. let z = r.2 in omega (arith, z)) c p ((body_refused file memory g c p).0 e)

fields-length : (fs gs : List Field) → length (write_all field (fs ++ gs)) ≡ length (write_all field fs) + length (write_all field gs)
fields-length [] gs = omega arith
fields-length (f ∷ fs) gs = rw (length-append, length-append) (omega (arith, fields-length fs gs))

-- so the part that a body query hands back lies in the file
pub body-inside : (file : List ℕ) (s : State) (g : ℕ) → Body file s g → (definition_at s g).body_start + (definition_at s g).body_length ≤ length file
body-inside file s g b =
    let o = b.origin in
    let place = from_place s o.instances g o.original o.from in
    let from : (definition_at s g).body_start ≡ (adds start o.before).bytes + 6 = place.0 ∙ ap (λ (d : Added). d.body_start) o.added in
    let size : (definition_at s g).body_length ≡ length (expression.write o.body) = place.1 ∙ ap (λ (d : Added). d.body_length) o.added in
    let whole : length (write_all field (o.before ++ (definition o.name o.params o.body ∷ o.behind))) ≡ length file =
    ap (λ (fs : List Field). length (write_all field fs)) o.fields ∙ ap length b.laid_out.1 in
    let bytes = adds_bytes start o.before in
    let split = fields-length o.before (definition o.name o.params o.body ∷ o.behind) in
    let one = length-append (write_field (definition o.name o.params o.body)) (write_all field o.behind) in
    omega (arith, from, size, whole, bytes, split, one)

pub part-inside : (file memory : List ℕ) (g : ℕ) (part : ℕ × ℕ) → (body_query file memory g).reply ≡ result part → part.0 + part.1 ≤ file_bytes
part-inside file memory g part e =
    let r = (body-exact file memory g part).0 e in
    omega (arith, ap (λ (x : ℕ × ℕ). x.0) r.part_is, ap (λ (x : ℕ × ℕ). x.1) r.part_is, body-inside file r.state g r.body, not_over file memory r.state r.accepted)
