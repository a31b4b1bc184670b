-- The names of tenants, word by word: for `read_names`.
use Rattle.std.proofs.Common.{◌≡◌, ◌≢◌, ◌⊎◌, ℕ, suc, ◌+◌, ◌<◌, List, [], ◌∷◌, ◌++◌, length, get_or, take, sym, ap, subst, ◌∙◌, inl, inr, arith}
use Rattle.std.specs.Prelude.{All, AllPairs, Contains}
use Rattle.std.proofs.lemmas.List.{get_or-take, get_or_default, length-take, take_more}
use Rattle.std.proofs.lemmas.List.Elements.{All-nil, All-cons}
use Rattle.std.proofs.lemmas.List.Kept.{AllPairs-cons}
use Rattle.line_protocol.specs.StepSpelling.{IsName}
use Rattle.command_line.specs.Words.{AreTenants}

all_of_more : {X : Type 0} (P : X → Type 0) (xs : List X) (x : X) → All P xs → P x → All P (xs ++ x ∷ [])
all_of_more P [] x so_far here = All-cons P x [] here (All-nil P)
all_of_more P (y ∷ ys) x so_far here = All-cons P y (ys ++ x ∷ []) (so_far 0 y (omega arith)) (all_of_more P ys x (λ k d within. so_far (suc k) d (omega arith)) here)

pairs_of_more : {X : Type 0} (R : X → X → Type 0) (xs : List X) (x : X) → AllPairs R xs → All (λ y. R y x) xs → AllPairs R (xs ++ x ∷ [])
pairs_of_more R [] x so_far here = AllPairs-cons R x [] (All-nil (R x)) (λ i j d before within. absurd (omega arith))
pairs_of_more R (y ∷ ys) x so_far here =
    AllPairs-cons R y (ys ++ x ∷ []) (all_of_more (R y) ys x (λ k d within. so_far 0 (suc k) d (omega arith) (omega arith)) (here 0 y (omega arith)))
    (pairs_of_more R ys x (λ i j d before within. so_far (suc i) (suc j) d (omega arith) (omega arith)) (λ k d within. here (suc k) d (omega arith)))

-- names, none twice
pub record AreNames (names : List (List ℕ)) : Type 0 where
  pub named : All IsName names
  pub distinct : AllPairs (λ one other. one ≢ other) names

pub no_names_yet : AreNames []
no_names_yet = record { named = λ k d within. absurd (omega arith); distinct = λ i j d before within. absurd (omega arith) }

one_name_more : (names : List (List ℕ)) (name : List ℕ) → AreNames names → IsName name → All (λ known. known ≢ name) names → AreNames (names ++ name ∷ [])
one_name_more names name so_far is apart = record {
  named = all_of_more IsName names name so_far.named is;
  distinct = pairs_of_more (λ one other. one ≢ other) names name so_far.distinct apart;
}

pub more_names : (names known more : List (List ℕ)) (word name : List ℕ) → name ≡ word → known ≡ names → more ≡ names ++ name ∷ [] → AreNames names → IsName word
    → All (λ one. one ≢ word) known → AreNames more
more_names names known more word name is same adds so_far named apart =
    let apart_here : All (λ one. one ≢ word) names = subst (λ (l : List (List ℕ)). All (λ one. one ≢ word) l) same apart in
    subst AreNames (sym adds)
    (one_name_more names name so_far (subst IsName (sym is) named) (subst (λ (n : List ℕ). All (λ one. one ≢ n) names) (sym is) apart_here))

-- a word that is no name, or stands among those before it, is no tenant's
pub bad_word : (words : List (List ℕ)) (i : ℕ) (word : List ℕ) (names : List (List ℕ)) → i < length words → get_or words i [] ≡ word → names ≡ take i words
    → (IsName word → ⊥) ⊎ Contains names word → AreTenants words → ⊥
bad_word words i word names within here so_far (inl no_name) tenants = no_name (subst IsName here (tenants.named i [] within))
bad_word words i word names within here so_far (inr twice) tenants =
    let k = twice.0 in
    let few : k < length (take i words) = subst (λ (l : List (List ℕ)). k < length l) so_far twice.1 in
    let before : k < i = omega (arith, few, length-take i words) in
    let inside : k < length words = omega arith in
    let same : get_or (take i words) k word ≡ word = subst (λ (l : List (List ℕ)). get_or l k word ≡ word) so_far twice.2 in
    tenants.distinct k i [] before within (get_or_default words k [] word inside ∙ sym (get_or-take i words k word before) ∙ same ∙ sym here)

pub next_names : (words : List (List ℕ)) (i : ℕ) (word name : List ℕ) (names more : List (List ℕ)) → i < length words → get_or words i [] ≡ word → name ≡ word
    → names ≡ take i words → more ≡ names ++ name ∷ [] → more ≡ take (i + 1) words
next_names words i word name names more within here is so_far adds =
    let last : get_or words i [] ≡ name = here ∙ sym is in
    adds ∙ ap (λ (l : List (List ℕ)). l ++ name ∷ []) so_far ∙ ap (λ (n : List ℕ). take i words ++ n ∷ []) (sym last) ∙ sym (take_more words i [] within)
