-- What a parse that ends says of what is found in the words.
use Rattle.std.proofs.Common.{◌≡◌, ◌&&◌, Bool, true, false, ℕ, List, [], ◌∷◌, Some, None, refl}
use Rattle.clap.specs.Words.{App, HasMatchesOf, IsAmong, Kinds, fault_of, found_of, is_simple, is_simple_and_free, matches_of, rows_of}
use Rattle.clap.specs.declared.error.kind.ErrorKind.{ErrorKind}
use Rattle.clap.specs.declared.parser.matches.ArgMatches.{ArgMatches}
use Rattle.ug_arguments.specs.SimpleCommands.{rows_in, unless_faulty}

left_true : (a b : Bool) → (a && b) ≡ true → a ≡ true
left_true true b e = refl
left_true false b e = e

none_taken : {X : Type 0} (kinds : Kinds) (x : X) → kinds ≡ [] → unless_faulty kinds x ≡ Some x
none_taken [] x e = refl
none_taken (k ∷ ks) x e = cc

some_refused : {X : Type 0} (kinds : Kinds) (k : ErrorKind) (x : X) → IsAmong k kinds → unless_faulty kinds x ≡ None
some_refused [] k x e = absurd e
some_refused (k1 ∷ ks) k x e = refl

pub rows_taken : (app : App) (words : List (List ℕ)) (m : ArgMatches) → is_simple_and_free app ≡ true → fault_of app words ≡ [] → HasMatchesOf app words m
    → rows_in app words ≡ Some (rows_of (found_of m))
unfolding rows_in
rows_taken app words m simple none has =
    rw ((has (left_true (is_simple app) _ simple)).0) (none_taken (fault_of app words) (matches_of app words) none)

pub rows_refused : (app : App) (words : List (List ℕ)) (k : ErrorKind) → IsAmong k (fault_of app words) → rows_in app words ≡ None
unfolding rows_in
rows_refused app words k among = some_refused (fault_of app words) k (matches_of app words) among
