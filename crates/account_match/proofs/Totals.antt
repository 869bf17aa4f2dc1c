-- The order of accounts is a total one.
use Rattle.std.specs.Cmp.{IsTotalOrder, back_total, bool_cmp_total, nat_cmp_total, on_total, then_total}
use Rattle.std.specs.Cmp.Lexicographic.{nat_list_cmp_total}
use Rattle.acl_names.specs.declared.auth.AuthId.{AuthId}
use Rattle.account_match.specs.Form.{address_in, class_of, reach_of}
use Rattle.account_match.specs.Order.{account_order, form_in, host_order, is_blank, user_order}

host_order_total : IsTotalOrder host_order
host_order_total =
    then_total (then_total (then_total (on_total (λ host. class_of (form_in host)) nat_cmp_total)
    (back_total (on_total (λ host. reach_of (form_in host)) nat_cmp_total)))
    (on_total (λ host. address_in (form_in host)) nat_cmp_total))
    nat_list_cmp_total

user_order_total : IsTotalOrder user_order
user_order_total = then_total (on_total is_blank bool_cmp_total) nat_list_cmp_total

pub account_order_total : IsTotalOrder account_order
account_order_total =
    then_total (on_total (λ (account : AuthId). account.host) host_order_total) (on_total (λ (account : AuthId). account.user) user_order_total)
