use Rattle.tokens.proofs.Places.{fits}
use Rattle.resolve.proofs.Walking.{w-limit, w-nothing, w-token, w-none, w-more, under_low, deeper-low}
use borrow.Author.Rules.{rules}
use Rattle.resolve.proofs.walk.+look_args_look_expr.Goals as goal

pub look_args-returns-then-left-eq0 : goal.look_args-returns-then-left-eq0
look_args-returns-then-left-eq0 t c = search w-none

pub look_args-look_expr-a-requires : goal.look_args-look_expr-a-requires
look_args-look_expr-a-requires t c = (search rules, (search rules, search under_low))

pub look_args-look_args-b-requires : goal.look_args-look_args-b-requires
look_args-look_args-b-requires t c = (search rules, (search rules, search rules, search rules))

pub look_args-returns : goal.look_args-returns
look_args-returns t c = search w-more

pub look_expr-returns-then-nest-eq0 : goal.look_expr-returns-then-nest-eq0
look_expr-returns-then-nest-eq0 t c = search w-limit

pub look_expr-overflow_add-next : goal.look_expr-overflow_add-next
look_expr-overflow_add-next t c = search fits

pub look_expr-look_args-a-requires : goal.look_expr-look_args-a-requires
look_expr-look_args-a-requires t c = (search rules, (search rules, search rules, search deeper-low))

pub look_expr-returns : goal.look_expr-returns
look_expr-returns t c = search w-token

pub look_expr-returns-in_default : goal.look_expr-returns-in_default
look_expr-returns-in_default t c = search w-nothing
