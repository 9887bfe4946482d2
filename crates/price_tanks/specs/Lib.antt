pub mod PricesWritten
