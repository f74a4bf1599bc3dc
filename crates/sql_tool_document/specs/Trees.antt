-- Requests and documents as plain trees.
use Rattle.std.specs.Prelude.{Option, map, option_map}
use Rattle.serde_json.specs.Data.{Data}
use Rattle.sql_build_syntax.specs.View.{expr_tree, query_tree}
use Rattle.sql_tool_document.specs.Documents as t
use Rattle.sql_tool_document.specs.Documents.{value_in}
use Rattle.sql_tool_document.specs.Guards as g
use Rattle.sql_tool_document.specs.Policies as p
use Rattle.sql_tool_document.specs.Sessions as n
use Rattle.sql_tool_document.specs.Texts as x
use Rattle.sql_tool_document.specs.declared.document.Document.{Document}
use Rattle.sql_tool_document.specs.declared.document.Request.{Request}
use Rattle.sql_tool_document.specs.declared.guard.Guard.{Guard}
use Rattle.sql_tool_document.specs.declared.guard.Guarded.{Guarded}
use Rattle.sql_tool_document.specs.declared.policy.NamedPolicy.{NamedPolicy}
use Rattle.sql_tool_document.specs.declared.policy.Policed.{Policed}
use Rattle.sql_tool_document.specs.declared.session.Call.{Call}
use Rattle.sql_tool_document.specs.declared.session.Opening.{Opening}
use Rattle.sql_tool_document.specs.declared.session.Template.{Template}
use Rattle.sql_tool_document.specs.declared.texts.Texts.{Texts}

abbrev pub request_tree : Request → t.Request
request_tree r = record { dialect = r.dialect; query = query_tree r.query }

abbrev pub document_tree : Document → t.Document
document_tree d = record { schema = d.schema; requests = map request_tree d.requests }

abbrev pub guard_tree : Guard → g.Guard
guard_tree g = record { table = g.table; predicate = expr_tree g.predicate }

abbrev pub guarded_tree : Guarded → g.Guarded
guarded_tree g = record { document = document_tree g.document; guard = guard_tree g.guard }

abbrev pub named_policy_tree : NamedPolicy → p.NamedPolicy
named_policy_tree q = record { table = q.table; predicate = option_map expr_tree q.predicate }

abbrev pub policed_tree : Policed → p.Policed
policed_tree d = record { document = document_tree d.document; policies = map named_policy_tree d.policies }

abbrev pub texts_tree : Texts → x.Texts
texts_tree t = record { schema = t.schema; texts = t.texts }

-- the JSON that the text is
abbrev pub template_tree : Template → Option Data
template_tree t = value_in t.text.items

abbrev pub call_tree : Call → n.Call
call_tree c = record { document = document_tree c.document; policies = option_map (λ qs. map named_policy_tree qs) c.policies }

abbrev pub opening_tree : Opening → n.Opening
opening_tree o = record { call = call_tree o.call; template = option_map template_tree o.template }
