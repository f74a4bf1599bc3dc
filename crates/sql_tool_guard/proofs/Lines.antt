-- The requests so far, and one more.
use Rattle.std.proofs.Common.{◌≡◌, List, [], ◌∷◌, ◌++◌, length, suc, ap, refl}
use Rattle.sql_schema.specs.Declarations.{Declarations}
use Rattle.sql_tool_document.specs.Documents.{Request}
use Rattle.sql_tool_build.specs.Output.{StatementRequest}
use Rattle.sql_tool_guard.specs.Output.{AreGuarded, IsGuarded}
use Rattle.sql_tool_guard.specs.Tenants.{Tenant}

pub guarded-more : (schema : Declarations) (t : Tenant) (qs : List Request) (rs : List StatementRequest) (q : Request)
    (r : StatementRequest)
    → AreGuarded schema t qs rs → IsGuarded schema t q r → AreGuarded schema t (qs ++ q ∷ []) (rs ++ r ∷ [])
guarded-more schema t [] [] q r all one = (one, tt)
guarded-more schema t [] (s ∷ rs) q r all one = absurd all
guarded-more schema t (p ∷ qs) [] q r all one = absurd all
guarded-more schema t (p ∷ qs) (s ∷ rs) q r all one = (all.0, guarded-more schema t qs rs q r all.1 one)

pub guarded-length : (schema : Declarations) (t : Tenant) (qs : List Request) (rs : List StatementRequest)
    → AreGuarded schema t qs rs → length rs ≡ length qs
guarded-length schema t [] [] all = refl
guarded-length schema t [] (r ∷ rs) all = absurd all
guarded-length schema t (q ∷ qs) [] all = absurd all
guarded-length schema t (q ∷ qs) (r ∷ rs) all = ap suc (guarded-length schema t qs rs all.1)
