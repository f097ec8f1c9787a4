pub mod ClassOrders
