use Rattle.sql_tool_series.proofs.LookedUp.{are-users, are-posts, is-id, is-name, is-user_id, is-title}
use Rattle.sql_tool_series.proofs.statements.Named.new.Goals as goal

pub returns : goal.returns
returns c =
    let schema = c.in_ok-schema.schema in
    let same = c.in_ok-schema.ensures in
    let users = are-users schema same c.in_ok-users.users c.in_ok-users.ensures in
    let posts = are-posts schema same c.in_ok-posts.posts c.in_ok-posts.ensures in
    record {
      schema = same;
      users = users;
      id = is-id c.in_ok-users.users c.in_ok-id.id users c.in_ok-id.ensures;
      name = is-name c.in_ok-users.users c.in_ok-name.name users c.in_ok-name.ensures;
      posts = posts;
      user_id = is-user_id c.in_ok-posts.posts c.in_ok-user_id.user_id posts c.in_ok-user_id.ensures;
      title = is-title c.in_ok-posts.posts c.in_ok-title.title posts c.in_ok-title.ensures;
    }
